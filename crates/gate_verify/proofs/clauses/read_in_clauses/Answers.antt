use Rattle.std.proofs.Common.{ap, Err}
use Rattle.qrp_check.specs.Checked.{call_of}
use Rattle.gate_verify.proofs.Told.{made_of, unread}
use Rattle.gate_verify.proofs.clauses.read_in_clauses.Goals as goal

pub returns-in-Ok : goal.returns-in-Ok
returns-in-Ok g c =
    made_of (call_of g.A.Source c.args.question.now c.read_bytes.new.source) c.in-Ok.text.items c.clauses_of_bytes.result
    c.in-Ok.ensures.bytes c.in-Ok.ensures.works c.clauses_of_bytes.ensures

pub returns-in-Err : goal.returns-in-Err
returns-in-Err g c =
    unread (call_of g.A.Source c.args.question.now c.read_bytes.new.source) c.in-Err.fault c.in-Err.ensures.fault
    (λ is small. c.in-Err.ensures.failed (ap Err is) small) (λ is. c.in-Err.ensures.kept (ap Err is))
