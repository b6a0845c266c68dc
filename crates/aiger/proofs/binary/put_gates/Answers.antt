use Rattle.qbf_text.proofs.SentParts.{sent_fails, sent_part}
use Rattle.aiger.proofs.BinaryNumbers.{gates_next}
use Rattle.aiger.proofs.binary.put_gates.Goals as goal

pub returns-in_err-put_gate : goal.returns-in_err-put_gate
returns-in_err-put_gate g c =
    let next = gates_next c.args.first c.args.gates.now c.loop-i.i _ c.gate_at-gate.ensures in
    sent_fails _ _ c.loop-i.invariant.sent next c.from_residual.ensures.1 c.in_err-put_gate.ensures

pub loop-i-preserved : goal.loop-i-preserved
loop-i-preserved g c =
    let next = gates_next c.args.first c.args.gates.now c.loop-i.i _ c.gate_at-gate.ensures in
    record { sent = sent_part _ c.loop-i.invariant.sent next c.in_ok-put_gate.ensures }
