use Rattle.qbf_core.proofs.Cited.{◌≡◌, ◌++◌, length}
use Rattle.qbf_core.specs.Packed.{fours, AreLiterals}
use Rattle.qbf_core.proofs.packed_lists.take_fours.Given as goal

abbrev pub invariant-literals : goal.invariant-literals
invariant-literals l = record {
  taken : l.items.items ++ fours l.left ≡ l.fn.items.items ++ fours l.bytes;
  literals : AreLiterals (fours l.left);
}

abbrev pub decreases-literals : goal.decreases-literals
decreases-literals l = length l.left
