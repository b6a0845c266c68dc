use Rattle.qbf_core.proofs.Cited.{◌≡◌, ◌++◌, length}
use Rattle.std.specs.Int.{w32}
use Rattle.qbf_core.specs.Packed.{packed}
use Rattle.qbf_core.proofs.packed_lists.put_fours.Given as goal

abbrev pub invariant-literals : goal.invariant-literals
invariant-literals l = record {
  put : l.bytes.unfinished ++ packed w32 l.left ≡ l.fn.bytes.unfinished ++ packed w32 l.lits;
  whole : l.bytes.whole ≡ l.fn.bytes.whole;
}

abbrev pub decreases-literals : goal.decreases-literals
decreases-literals l = length l.left
