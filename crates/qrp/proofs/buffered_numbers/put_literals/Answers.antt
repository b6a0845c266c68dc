use Rattle.qrp.proofs.Cited.{arith, common_steps}
use Rattle.std.specs.Prelude.{slice_range}
use Rattle.qrp.proofs.BufferedNumbers.{literals_lead, more_literals}
use Rattle.qrp.proofs.buffered_numbers.put_literals.Goals as goal

pub returns-clause-leads : goal.returns-clause-leads
returns-clause-leads c = grind (arith, common_steps, literals_lead)

pub returns-clause-sound : goal.returns-clause-sound
returns-clause-sound c = grind (arith, common_steps, more_literals, slice_range)
