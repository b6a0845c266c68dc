use Rattle.trace_items.proofs.Positions.{step_only}
use Rattle.trace_items.proofs.trace.TraceSteps.position.Goals as goal

pub returns-clause-only : goal.returns-clause-only
returns-clause-only c = rw (← c.self.view_is) (step_only _ c.self.inside.parts.lists.index
    c.args.number c.position.result c.self.invariant.0.same c.position.ensures.only)
