use Rattle.core_walk.proofs.Cited.{ℕ, List, sym, subst, Inference, at_place}
use Rattle.core_walk.proofs.CoreStep.{followed_here}
use Rattle.core_walk.proofs.DistinctLits.{written_members}
use Rattle.core_walk.proofs.Marking.{core_within}
use Rattle.core_walk.specs.DistinctLits.{AreKept}
use Rattle.core_walk.specs.declared.distinct_lits.DistinctLits.{DistinctLits}
use Rattle.core_walk.proofs.following.follow_written.Goals as goal

pub number-requires : goal.number-requires
number-requires g c = core_within (g.T.KeptSteps.steps c.args.place.trace.now) c.args.place.position c.requires.core

pub returns-in_ok-keep-in-None-clause-follows : goal.returns-in_ok-keep-in-None-clause-follows
returns-in_ok-keep-in-None-clause-follows g c =
    let steps : List Inference = g.T.KeptSteps.steps c.args.place.trace.now in
    record {
      follows = followed_here c.args.context.rules g.S.Side.side c.args.context.formula.now steps c.args.place.position c.requires.before.follows
          (rw c.in-None.is at c.in_ok-judge_written.ensures.fault);
      known = c.in_ok-judge_written.ensures.known;
      parts = c.in_ok-judge_written.ensures.parts;
      kept = c.in_ok-keep-in-None.ensures steps (written_members steps c.args.place.position c.args.lits.now c.requires.lits)
          (subst (λ (d : DistinctLits). AreKept steps d) (sym c.judge_written.ensures.kept) c.requires.before.kept);
    }

pub returns-in-Some-clause-refused : goal.returns-in-Some-clause-refused
returns-in-Some-clause-refused g c =
    let steps : List Inference = g.T.KeptSteps.steps c.args.place.trace.now in
    let i : ℕ = c.args.place.position in
    let s = at_place steps i (core_within steps i c.requires.core) in
    let answer = rw c.in-Some.is at c.in_ok-judge_written.ensures.fault in
    record {
      position = i;
      needed = c.requires.core;
      fails = record { step = s.0; here = s.1; first = answer s.0 s.1 };
      numbered = sym (c.number.ensures.value s.0 s.1);
      earlier = c.requires.before.follows;
    }
