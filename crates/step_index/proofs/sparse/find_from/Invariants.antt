use Rattle.std.proofs.Common.{◌≡◌, ◌<◌, ◌≤◌, ℕ, Some, slice_get, length}
use Rattle.step_index.proofs.sparse.find_from.Given as goal

abbrev pub invariant-loop-place : goal.invariant-loop-place
invariant-loop-place l = record {
  end : l.place-end ≡ length l.numbers;
  none : (i : ℕ) → l.from ≤ i → i < l.place → slice_get l.numbers i ≡ Some l.number → ⊥;
}
