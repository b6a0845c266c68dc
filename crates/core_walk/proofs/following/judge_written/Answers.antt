use Rattle.core_walk.proofs.Cited.{List, None, Some, Inference, at_place}
use Rattle.core_walk.proofs.CoreStep.{premises_fit, step_answer}
use Rattle.core_walk.proofs.Marking.{core_within}
use Rattle.core_walk.proofs.following.judge_written.Goals as goal

pub judge-requires : goal.judge-requires
judge-requires g c =
    let steps : List Inference = g.T.KeptSteps.steps c.args.place.trace.now in
    let s = at_place steps c.args.place.position (core_within steps c.args.place.position c.requires.core) in
    record {
      position = core_within steps c.args.place.position c.requires.core;
      are = rw c.in-Ok-Some.field-0-is at c.in-Ok-Some.ensures;
      fit = premises_fit c.args.context.rules g.S.Side.side c.args.context.formula.now steps c.args.place.position c.requires.core
          c.requires.before.follows s.0 s.1 (Some c.in-Ok-Some.found) ((rw c.in-Ok-Some.field-0-is at c.in-Ok-Some.ensures) s.0 s.1);
      known = c.requires.before.known;
      parts = c.requires.before.parts;
    }

pub judge-requires-in-Ok-None : goal.judge-requires-in-Ok-None
judge-requires-in-Ok-None g c = record {
  position = core_within (g.T.KeptSteps.steps c.args.place.trace.now) c.args.place.position c.requires.core;
  are = rw c.in-Ok-None.field-0-is at c.in-Ok-None.ensures;
  fit = tt;
  known = c.requires.before.known;
  parts = c.requires.before.parts;
}

pub returns-in-Ok-Some-clause-fault : goal.returns-in-Ok-Some-clause-fault
returns-in-Ok-Some-clause-fault g c =
    step_answer c.args.context.rules g.S.Side.side c.args.context.formula.now (g.T.KeptSteps.steps c.args.place.trace.now) c.args.place.position
    (Some c.in-Ok-Some.found) c.args.lits.now c.judge.result c.requires.lits (rw c.in-Ok-Some.field-0-is at c.in-Ok-Some.ensures) c.judge.ensures.fault

pub returns-in-Ok-None-clause-fault : goal.returns-in-Ok-None-clause-fault
returns-in-Ok-None-clause-fault g c =
    step_answer c.args.context.rules g.S.Side.side c.args.context.formula.now (g.T.KeptSteps.steps c.args.place.trace.now) c.args.place.position
    None c.args.lits.now c.judge-in-Ok-None.result c.requires.lits (rw c.in-Ok-None.field-0-is at c.in-Ok-None.ensures) c.judge-in-Ok-None.ensures.fault
