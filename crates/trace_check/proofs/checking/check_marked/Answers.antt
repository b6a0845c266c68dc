use Rattle.trace_check.proofs.Cited.{ap, side_of}
use Rattle.trace_check.specs.Proof.{is_sat}
use Rattle.trace_check.proofs.CheckAnswers.{proves, refuses, shows, claims_false, claims_true, closed_of}
use Rattle.trace_check.proofs.checking.check_marked.Goals as goal

pub returns-in_default-find_goal-clause-refused : goal.returns-in_default-find_goal-clause-refused
returns-in_default-find_goal-clause-refused g c =
    λ other. (rw c.prefix.ensures.value at c.in_default.ensures.none, c.in_default-find_goal.ensures.none)

pub returns-in-Unsat-clause-proves : goal.returns-in-Unsat-clause-proves
returns-in-Unsat-clause-proves g c = proves _ _ _ _ _ _ _ (ap side_of c.in-Unsat.is)
    (rw c.prefix.ensures.value at c.in_default.ensures.none) c.check_core.ensures.derives

pub returns-in-Unsat-clause-truth : goal.returns-in-Unsat-clause-truth
returns-in-Unsat-clause-truth g c = shows _ _ _ _ _ _ _ _ (ap side_of c.in-Unsat.is) (ap is_sat c.in-Unsat.is)
    (claims_false c.args.context.formula.now) (closed_of c.args.context.formula.now c.prefix.ensures.sound) (returns-in-Unsat-clause-proves g c)

pub returns-in-Unsat-clause-refused : goal.returns-in-Unsat-clause-refused
returns-in-Unsat-clause-refused g c = refuses _ c.args.context.formula.now (g.Q.KeptSets.sets c.args.sets.now) _ _ _ _ (ap side_of c.in-Unsat.is)
    (rw c.prefix.ensures.value at c.in_default.ensures.none) c.check_core.ensures.refused

pub returns-in-Sat-clause-proves : goal.returns-in-Sat-clause-proves
returns-in-Sat-clause-proves g c = proves _ _ _ _ _ _ _ (ap side_of c.in-Sat.is)
    (rw c.prefix.ensures.value at c.in_default.ensures.none) c.check_core-in-Sat.ensures.derives

pub returns-in-Sat-clause-truth : goal.returns-in-Sat-clause-truth
returns-in-Sat-clause-truth g c = shows _ _ _ _ _ _ _ _ (ap side_of c.in-Sat.is) (ap is_sat c.in-Sat.is)
    (claims_true c.args.context.formula.now) (closed_of c.args.context.formula.now c.prefix.ensures.sound) (returns-in-Sat-clause-proves g c)

pub returns-in-Sat-clause-refused : goal.returns-in-Sat-clause-refused
returns-in-Sat-clause-refused g c = refuses _ c.args.context.formula.now (g.Q.KeptSets.sets c.args.sets.now) _ _ _ _ (ap side_of c.in-Sat.is)
    (rw c.prefix.ensures.value at c.in_default.ensures.none) c.check_core-in-Sat.ensures.refused
