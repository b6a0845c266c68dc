use Rattle.qrp.proofs.Cited.{◌-◌, ◌≤◌, length, state_at, IsSound, Stays}
use Rattle.window_numbers.specs.Values.{numbers_of}
use Rattle.qbf_text.specs.TakenNumbers.{LeadsOver}
use Rattle.qrp.specs.Reading.{row}
use Rattle.qrp.proofs.buffered_numbers.take_one_by_one.Given as goal

abbrev pub invariant-numbers : goal.invariant-numbers
invariant-numbers l = record {
  leads : LeadsOver row (state_at l.fn.lists l.fn.here) (state_at l.lists l.state) (numbers_of l.values) l.fn.from l.i;
  sound : Stays l.fn.lists l.lists × IsSound l.state l.lists;
  within : l.i ≤ length (numbers_of l.values);
}

abbrev pub decreases-numbers : goal.decreases-numbers
decreases-numbers l = length (numbers_of l.values) - l.i
