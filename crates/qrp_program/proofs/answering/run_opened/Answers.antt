use Rattle.std.proofs.Common.{refl}
use Rattle.qrp_program.specs.Program.{start_report}
use Rattle.qrp_program.proofs.answering.run_opened.Goals as goal

pub returns-in-Err : goal.returns-in-Err
returns-in-Err g c = (start_report (g.J.Jobs.refusals c.args.job) c.in-Err.start, rw c.in-Err.is refl, rw (← c.refused_on.ensures) c.refuse.ensures)
