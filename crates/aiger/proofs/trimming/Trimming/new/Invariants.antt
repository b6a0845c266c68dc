use Rattle.std.proofs.Common.{◌≡◌, ◌<◌, ℕ, Some, slice_get, length}
use Rattle.aiger.specs.Wires.{Wire, plain}
use Rattle.aiger.proofs.trimming.Trimming.new.Given as goal

abbrev pub invariant-loop-input : goal.invariant-loop-input
invariant-loop-input l = record {
  count : length l.wires.items ≡ l.input;
  plain_wires : (n : ℕ) (w : Wire) → slice_get l.wires.items n ≡ Some w → (w ≡ plain n) × (n < l.input);
}
