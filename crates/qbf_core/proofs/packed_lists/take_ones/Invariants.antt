use Rattle.qbf_core.proofs.Cited.{◌≡◌, ◌++◌, length}
use Rattle.qbf_core.specs.Packed.{ones, AreLiterals}
use Rattle.qbf_core.proofs.packed_lists.take_ones.Given as goal

abbrev pub invariant-fours : goal.invariant-fours
invariant-fours l = record {
  taken : l.items.items ++ ones l.left ≡ l.fn.items.items ++ ones l.bytes;
  literals : AreLiterals (ones l.left);
}

abbrev pub decreases-fours : goal.decreases-fours
decreases-fours l = length l.left

abbrev pub invariant-literals : goal.invariant-literals
invariant-literals l = record {
  taken : l.items.items ++ ones l.left ≡ l.fn.items.items ++ ones l.bytes;
  literals : AreLiterals (ones l.left);
}

abbrev pub decreases-literals : goal.decreases-literals
decreases-literals l = length l.left
