use Rattle.qbf_core.specs.Rules.{reduced_quantifier}
use Rattle.std.proofs.Common.{◌≡◌, length, take}
use Rattle.qbf_strategy.specs.Decisions.{decisions_by}
use Rattle.proof_decisions.specs.ProofDecisions.{AreAllThatSet}
use Rattle.proof_decisions.proofs.decisions.decisions_for.Given as goal

abbrev pub invariant-loop-i : goal.invariant-loop-i
invariant-loop-i g l = record {
  same : length l.walk.decisions.kept.whole ≡ length l.walk.decisions.removed.whole;
  are : AreAllThatSet g.S.Side.side l.proof.formula.now (g.T.KeptSteps.steps l.proof.trace.now) (take l.i l.core)
      (decisions_by (reduced_quantifier g.S.Side.side) l.walk.decisions.kept.whole l.walk.decisions.removed.whole);
}
