use Rattle.std.proofs.Common.{arith}
use Rattle.qbf_text.proofs.SentParts.{sent_fails, sent_part}
use Rattle.aiger.proofs.WrittenLines.{inputs_next}
use Rattle.aiger.proofs.ascii.InputLinesPut.put.Goals as goal

pub returns-in_err-put_input : goal.returns-in_err-put_input
returns-in_err-put_input g c =
    let next = inputs_next c.args.self.now.0.now c.loop-i.i (omega (arith, c.loop-i-test.true, c.loop-i.auto.i-end)) in
    sent_fails _ _ c.loop-i.invariant.sent next c.from_residual.ensures.1 c.in_err-put_input.ensures

pub loop-i-preserved : goal.loop-i-preserved
loop-i-preserved g c =
    let next = inputs_next c.args.self.now.0.now c.loop-i.i (omega (arith, c.loop-i-test.true, c.loop-i.auto.i-end)) in
    record { sent = sent_part _ c.loop-i.invariant.sent next c.in_ok-put_input.ensures }
