use Rattle.qrp.proofs.Cited.{arith, common_steps}
use Rattle.std.specs.Prelude.{slice_range}
use Rattle.qrp.proofs.BufferedNumbers.{list_ends, more_literals}
use Rattle.qrp.proofs.buffered_numbers.take_all_literals.Goals as goal

pub returns-clause-leads : goal.returns-clause-leads
returns-clause-leads c = grind (arith, common_steps, list_ends)

pub returns-clause-sound : goal.returns-clause-sound
returns-clause-sound c = grind (arith, common_steps, more_literals, slice_range)
