use Rattle.qbf_core.proofs.Cited.{◌≤◌, ◌≡◌, ◌++◌, length, AllByRecursion}
use Rattle.std.specs.Int.{w8}
use Rattle.qbf_core.specs.Packed.{packed}
use Rattle.qbf_core.proofs.packed_lists.put_ones.Given as goal

abbrev pub invariant-fours : goal.invariant-fours
invariant-fours l = record {
  put : l.bytes.unfinished ++ packed w8 l.left ≡ l.fn.bytes.unfinished ++ packed w8 l.lits;
  whole : l.bytes.whole ≡ l.fn.bytes.whole;
  small : AllByRecursion (λ x. x.var ≤ 127) l.left;
}

abbrev pub decreases-fours : goal.decreases-fours
decreases-fours l = length l.left

abbrev pub invariant-literals : goal.invariant-literals
invariant-literals l = record {
  put : l.bytes.unfinished ++ packed w8 l.left ≡ l.fn.bytes.unfinished ++ packed w8 l.lits;
  whole : l.bytes.whole ≡ l.fn.bytes.whole;
  small : AllByRecursion (λ x. x.var ≤ 127) l.left;
}

abbrev pub decreases-literals : goal.decreases-literals
decreases-literals l = length l.left
