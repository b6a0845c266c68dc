use Rattle.qbf_core.proofs.Cited.{◌≤◌, ◌≡◌, ◌++◌, length, AllByRecursion}
use Rattle.std.specs.Int.{w16}
use Rattle.qbf_core.specs.Packed.{packed}
use Rattle.qbf_core.proofs.packed_lists.put_twos.Given as goal

abbrev pub invariant-literals : goal.invariant-literals
invariant-literals l = record {
  put : l.bytes.unfinished ++ packed w16 l.left ≡ l.fn.bytes.unfinished ++ packed w16 l.lits;
  whole : l.bytes.whole ≡ l.fn.bytes.whole;
  small : AllByRecursion (λ x. x.var ≤ 32767) l.left;
}

abbrev pub decreases-literals : goal.decreases-literals
decreases-literals l = length l.left
