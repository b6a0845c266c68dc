use Rattle.qrp.proofs.Cited.{◌-◌, ◌≤◌, length, state_at, IsSound, Stays}
use Rattle.window_numbers.specs.Values.{numbers_of}
use Rattle.qbf_text.specs.TakenNumbers.{LeadsOver}
use Rattle.qrp.specs.Reading.{row}
use Rattle.qrp.specs.declared.states.State.TheVariants.{InSet}
use Rattle.qrp.proofs.buffered_numbers.put_members.Given as goal

abbrev pub invariant-members : goal.invariant-members
invariant-members l = record {
  leads : LeadsOver row (state_at l.fn.lists (InSet l.fn.quantifier)) (state_at l.lists (InSet l.fn.quantifier)) (numbers_of l.values) l.fn.from l.i;
  sound : Stays l.fn.lists l.lists × IsSound (InSet l.fn.quantifier) l.lists;
  within : l.i ≤ length (numbers_of l.values);
}

abbrev pub decreases-members : goal.decreases-members
decreases-members l = length (numbers_of l.values) - l.i
