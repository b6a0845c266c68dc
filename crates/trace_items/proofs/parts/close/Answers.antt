use Rattle.trace_items.proofs.FlatSteps.{step_closes}
use Rattle.trace_items.proofs.parts.close.Goals as goal

pub returns-in_ok-close_step-in-Step-clause-closed : goal.returns-in_ok-close_step-in-Step-clause-closed
returns-in_ok-close_step-in-Step-clause-closed g c =
    let closes = c.in_ok-close_step-in-Step.ensures in
    rw (c.in-Step.is, closes.closed) (step_closes g.A.StepLists.lists c.args.parts.now c.close_step.new.steps c.in-Step.number
    c.requires.made closes.added (rw closes.closed at closes.sound) (rw c.in-Step.is at c.requires.complete))
