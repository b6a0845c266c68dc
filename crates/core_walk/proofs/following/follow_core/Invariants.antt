use Rattle.core_walk.specs.Followed.{IsFollowed}
use Rattle.core_walk.proofs.following.follow_core.Given as goal

abbrev pub invariant-loop-position : goal.invariant-loop-position
invariant-loop-position g l =
    IsFollowed l.context.rules g.S.Side.side l.context.formula.now (g.T.KeptSteps.steps l.trace) l.position l.walk.state
