use Rattle.qdimacs.proofs.Cited.{◌-◌, ◌≤◌, length, state_at, IsSound, row}
use Rattle.window_numbers.specs.Values.{numbers_of}
use Rattle.qbf_text.specs.TakenNumbers.{LeadsOver}
use Rattle.qdimacs.specs.declared.states.State.TheVariants.{InClause}
use Rattle.qdimacs.proofs.buffered_numbers.take_literals.Given as goal

abbrev pub invariant-literals : goal.invariant-literals
invariant-literals l = record {
  leads : LeadsOver row (state_at l.fn.parts InClause) (state_at l.parts InClause) (numbers_of l.values) l.fn.from l.i;
  sound : IsSound InClause l.parts;
  within : l.i ≤ length (numbers_of l.values);
}

abbrev pub decreases-literals : goal.decreases-literals
decreases-literals l = length (numbers_of l.values) - l.i
