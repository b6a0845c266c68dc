use Rattle.qdimacs.proofs.Cited.{◌-◌, ◌≤◌, length, state_at, IsSound, row}
use Rattle.window_numbers.specs.Values.{numbers_of}
use Rattle.qbf_text.specs.TakenNumbers.{LeadsOver}
use Rattle.qdimacs.specs.declared.states.State.TheVariants.{Between}
use Rattle.qdimacs.proofs.buffered_numbers.take_clauses.Given as goal

abbrev pub invariant-clauses : goal.invariant-clauses
invariant-clauses l = record {
  leads : LeadsOver row (state_at l.fn.parts Between) (state_at l.parts Between) (numbers_of l.values) l.fn.start.0 l.i;
  sound : IsSound Between l.parts;
  within : l.i ≤ length (numbers_of l.values);
}

abbrev pub decreases-clauses : goal.decreases-clauses
decreases-clauses l = length (numbers_of l.values) - l.i
