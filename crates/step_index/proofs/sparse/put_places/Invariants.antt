use Rattle.std.proofs.Common.{◌≡◌, ℕ, List, length}
use Rattle.step_index.specs.Sparse.{ArePlaced, ArePlaces, AreNoted}
use Rattle.step_index.proofs.sparse.put_places.Given as goal

abbrev pub invariant-loop-place : goal.invariant-loop-place
invariant-loop-place l = record {
  end : l.place-end ≡ length l.numbers;
  sound : ArePlaces l.fn.table l.numbers → ArePlaces l.table l.numbers;
  placed : (far : List (ℕ × ℕ)) → AreNoted far l.near l.numbers → ArePlaced far l.fn.table l.numbers l.fn.from
      → ArePlaced far l.table l.numbers l.place;
}
