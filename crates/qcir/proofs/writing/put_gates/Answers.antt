use Rattle.qbf_text.proofs.SentParts.{sent_fails, sent_part}
use Rattle.qcir.proofs.WrittenParts.{gates_next}
use Rattle.qcir.proofs.writing.put_gates.Goals as goal

pub returns-in_err-put : goal.returns-in_err-put
returns-in_err-put g c =
    let next = gates_next c.args.names.now c.args.gates.now.gates c.loop-i.i _ _ _ _ _ c.gate-var.ensures c.name_or_empty.ensures
    c.kind_word.ensures in
    sent_fails _ _ c.loop-i.invariant.sent next c.from_residual.ensures.1 c.in_err-put.ensures

pub loop-i-preserved : goal.loop-i-preserved
loop-i-preserved g c =
    let next = gates_next c.args.names.now c.args.gates.now.gates c.loop-i.i _ _ _ _ _ c.gate-var.ensures c.name_or_empty.ensures
    c.kind_word.ensures in
    record { sent = sent_part _ c.loop-i.invariant.sent next c.in_ok-put.ensures }
