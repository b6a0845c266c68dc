use Rattle.qrp.proofs.Cited.{arith, sent_fails, sent_part, part_next, step_text}
use Rattle.qrp.proofs.writing.StepLinesPut.put.Goals as goal

pub returns-in_err-put_step : goal.returns-in_err-put_step
returns-in_err-put_step g c =
    let next = part_next step_text (g.T.KeptSteps.steps c.args.self.now.0.now) c.loop-position.position
    (omega (arith, c.loop-position-test.true, c.len-position-end.ensures.len)) in
    sent_fails _ _ c.loop-position.invariant.sent next.2 c.from_residual.ensures.1 (c.in_err-put_step.ensures next.0 next.1)

pub loop-position-preserved : goal.loop-position-preserved
loop-position-preserved g c =
    let next = part_next step_text (g.T.KeptSteps.steps c.args.self.now.0.now) c.loop-position.position
    (omega (arith, c.loop-position-test.true, c.len-position-end.ensures.len)) in
    record { sent = sent_part _ c.loop-position.invariant.sent next.2 (c.in_ok-put_step.ensures next.0 next.1) }
