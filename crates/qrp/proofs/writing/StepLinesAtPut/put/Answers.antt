use Rattle.qrp.proofs.Cited.{sent_fails, sent_part, part_at_next, step_text}
use Rattle.qrp.proofs.writing.StepLinesAtPut.put.Goals as goal

pub returns-in_err-put_step : goal.returns-in_err-put_step
returns-in_err-put_step g c =
    let self = c.args.self.now in
    let next = part_at_next step_text (g.T.KeptSteps.steps self.trace.now) self.positions.now c.loop-position.position-index self.inside c.loop-position-test.true in
    sent_fails _ _ c.loop-position.invariant.sent next.2 c.from_residual.ensures.1 (c.in_err-put_step.ensures next.0 next.1)

pub loop-position-preserved : goal.loop-position-preserved
loop-position-preserved g c =
    let self = c.args.self.now in
    let next = part_at_next step_text (g.T.KeptSteps.steps self.trace.now) self.positions.now c.loop-position.position-index self.inside c.loop-position-test.true in
    record { sent = sent_part _ c.loop-position.invariant.sent next.2 (c.in_ok-put_step.ensures next.0 next.1) }
