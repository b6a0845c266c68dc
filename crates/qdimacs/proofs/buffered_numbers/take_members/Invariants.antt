use Rattle.qdimacs.proofs.Cited.{◌-◌, ◌≤◌, length, state_at, IsSound, row}
use Rattle.window_numbers.specs.Values.{numbers_of}
use Rattle.qbf_text.specs.TakenNumbers.{LeadsOver}
use Rattle.qdimacs.specs.declared.states.State.TheVariants.{InSet}
use Rattle.qdimacs.proofs.buffered_numbers.take_members.Given as goal

abbrev pub invariant-members : goal.invariant-members
invariant-members l = record {
  leads : LeadsOver row (state_at l.fn.parts (InSet l.fn.quantifier)) (state_at l.parts (InSet l.open)) (numbers_of l.values) l.fn.from l.i;
  sound : IsSound (InSet l.open) l.parts;
  within : l.i ≤ length (numbers_of l.values);
}

abbrev pub decreases-members : goal.decreases-members
decreases-members l = length (numbers_of l.values) - l.i
