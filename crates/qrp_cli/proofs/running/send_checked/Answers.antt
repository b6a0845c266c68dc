use Rattle.qrp_cli.proofs.ProgramReport.{fault_report, truth_report}
use Rattle.qrp_cli.proofs.running.send_checked.Goals as goal

pub returns-in-Ok : goal.returns-in-Ok
returns-in-Ok g c = λ rules verdict is. rw (truth_report rules c.in-Ok.truth verdict (rw c.in-Ok.is at is)) c.send_verdict.ensures

pub returns-in-Err : goal.returns-in-Err
returns-in-Err g c = λ rules verdict is. rw (fault_report rules c.in-Err.fault verdict (rw c.in-Err.is at is)) c.send_fault.ensures
