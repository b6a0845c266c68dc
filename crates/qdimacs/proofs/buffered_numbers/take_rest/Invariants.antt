use Rattle.qdimacs.proofs.Cited.{◌-◌, ◌≤◌, length, state_at, IsSound, row}
use Rattle.window_numbers.specs.Values.{numbers_of}
use Rattle.qbf_text.specs.TakenNumbers.{LeadsOver}
use Rattle.qdimacs.proofs.buffered_numbers.take_rest.Given as goal

abbrev pub invariant-numbers : goal.invariant-numbers
invariant-numbers l = record {
  leads : LeadsOver row (state_at l.fn.parts l.fn.here) (state_at l.parts l.state) (numbers_of l.values) l.fn.from l.i;
  sound : IsSound l.state l.parts;
  within : l.i ≤ length (numbers_of l.values);
}

abbrev pub decreases-numbers : goal.decreases-numbers
decreases-numbers l = length (numbers_of l.values) - l.i
