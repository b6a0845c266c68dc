use Rattle.core_walk.proofs.Cited.{rules, arith, IsInCore}
use Rattle.core_walk.proofs.MarkedPlaces.{is_marked, is_unmarked}
use Rattle.core_walk.proofs.UnevenSteps.{none_kept, passed_over}
use Rattle.core_walk.proofs.following.follow_core.Goals.{then-marks-position+in_ok-follow_step, else-marks-position}
use Rattle.core_walk.proofs.following.follow_core.Goals as goal

pub loop-position-init : goal.loop-position-init
loop-position-init g c = record {
  follows = λ j less. absurd (omega (arith, less));
  known = c.new-3.ensures c.args.context.formula.now;
  parts = none_kept g.S.Side.side c.args.context.formula.now.blocks (g.T.KeptSteps.steps c.args.trace.now) c.new-4.result c.new-4.ensures;
  kept = c.new.ensures (g.T.KeptSteps.steps c.args.trace.now);
}

pub follow_step-requires-clause-core : goal.follow_step-requires-clause-core
follow_step-requires-clause-core g c = search (rules, is_marked)

pub loop-position-preserved : goal.loop-position-preserved
loop-position-preserved g c = elim c.if-marks-position.branch [
  | then-marks-position+in_ok-follow_step w ↦ rw w.walk-is w.in_ok-follow_step.ensures.follows
  | else-marks-position w ↦
      let out : IsInCore (g.T.KeptSteps.steps c.args.trace.now) c.loop-position.position → ⊥ =
      (λ core. is_unmarked c.args.marks.now c.loop-position.position w.if-marks-position.false
      ((c.requires.core c.loop-position.position).1 core)) in
      rw w.walk-is (passed_over c.args.context.rules g.S.Side.side c.args.context.formula.now (g.T.KeptSteps.steps c.args.trace.now)
      c.loop-position.position c.loop-position.walk.state out c.loop-position.invariant)
]
