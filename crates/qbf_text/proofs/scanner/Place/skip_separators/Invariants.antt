use Rattle.qbf_tokens.proofs.Cited.{ℕ, ◌≤◌, List, Option, length}
use Rattle.qbf_text.proofs.Cited.{PlaceSkips}
use Rattle.qbf_text.proofs.scanner.Place.skip_separators.Given as goal

abbrev pub invariant-loop-byte : goal.invariant-loop-byte
invariant-loop-byte l = record {
  none : (remaining : Option (List ℕ)) → PlaceSkips l.fn.self remaining l.self remaining;
  no_more : length l.self.window ≤ length l.fn.self.window;
}

abbrev pub decreases-loop-byte : goal.decreases-loop-byte
decreases-loop-byte l = length l.self.window
