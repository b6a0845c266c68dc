use Rattle.qbf_core.proofs.Cited.{◌≡◌, ◌++◌, length}
use Rattle.qbf_core.specs.Packed.{twos, AreLiterals}
use Rattle.qbf_core.proofs.packed_lists.take_twos.Given as goal

abbrev pub invariant-literals : goal.invariant-literals
invariant-literals l = record {
  taken : l.items.items ++ twos l.left ≡ l.fn.items.items ++ twos l.bytes;
  literals : AreLiterals (twos l.left);
}

abbrev pub decreases-literals : goal.decreases-literals
decreases-literals l = length l.left
