use Rattle.qbf_core.proofs.Cited.{◌≤◌, ◌-◌, length, take, AllByRecursion}
use Rattle.qbf_core.proofs.packed_lists.largest.Given as goal

abbrev pub invariant-literals : goal.invariant-literals
invariant-literals l = record {
  seen : AllByRecursion (λ x. x.var ≤ l.largest) (take l.place l.lits);
  within : l.place ≤ length l.lits;
}

abbrev pub decreases-literals : goal.decreases-literals
decreases-literals l = length l.lits - l.place
