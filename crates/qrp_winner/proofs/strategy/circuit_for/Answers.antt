use Rattle.std.proofs.Common.{arith, ap, Err}
use Rattle.qbf_core.specs.Blocks.{pairs}
use Rattle.qbf_core.specs.Rules.{reduced_quantifier}
use Rattle.qbf_strategy.specs.Decisions.{decisions_by}
use Rattle.qbf_strategy.specs.Winning.{opponent}
use Rattle.trace_check.proofs.CheckAnswers.{closed_of}
use Rattle.trace_check.specs.Proof.{side_of}
use Rattle.proof_decisions.proofs.DecisionSizes.{some_variables}
use Rattle.proof_decisions.proofs.IdleDecisions.{set_sees, set_size, set_wins}
use Rattle.qrp_winner.proofs.strategy.circuit_for.Goals as goal

pub returns-in-Ok-clause-wins : goal.returns-in-Ok-clause-wins
returns-in-Ok-clause-wins c =
    let whole = c.args.whole.now in
    set_wins c.requires.proves.0 c.args.formula.now whole.sets whole.steps whole.result c.args.verified.now.core.items
    (decisions_by (reduced_quantifier (side_of whole.result)) c.in_ok-decisions.decisions.kept.whole c.in_ok-decisions.decisions.removed.whole)
    (rw (c.result-outcome.ensures.value, c.deref.ensures.value) at c.in_ok-decisions.ensures.are)
    c.in-Ok.circuit (closed_of c.args.formula.now c.prefix.ensures.sound) c.requires.proves.1 c.requires.core
    (rw (c.winner.ensures, c.result-outcome.ensures.value, c.prefix.ensures.value) at c.in-Ok.ensures.computes)

pub circuit_of-requires-clause-sees : goal.circuit_of-requires-clause-sees
circuit_of-requires-clause-sees c =
    let whole = c.args.whole.now in
    rw (c.winner.ensures, c.result-outcome.ensures.value, c.prefix.ensures.value)
    (set_sees c.requires.proves.0 c.args.formula.now whole.sets whole.steps whole.result c.args.verified.now.core.items
    (decisions_by (reduced_quantifier (side_of whole.result)) c.in_ok-decisions.decisions.kept.whole c.in_ok-decisions.decisions.removed.whole)
    (rw (c.result-outcome.ensures.value, c.deref.ensures.value) at c.in_ok-decisions.ensures.are)
    (closed_of c.args.formula.now c.prefix.ensures.sound) c.requires.proves.1 c.requires.core)

pub returns-clause-long : goal.returns-clause-long
returns-clause-long c = λ is.
    let whole = c.args.whole.now in
    let side = side_of whole.result in
    let long = rw (c.winner.ensures, c.result-outcome.ensures.value, c.prefix.ensures.value) at (c.in-Err-TooLong.ensures.long (ap Err c.in-Err-TooLong.field-0-is)) in
    let all = set_size c.requires.proves.0 c.args.formula.now whole.sets whole.steps whole.result c.args.verified.now.core.items
    (decisions_by (reduced_quantifier side) c.in_ok-decisions.decisions.kept.whole c.in_ok-decisions.decisions.removed.whole)
    (rw (c.result-outcome.ensures.value, c.deref.ensures.value) at c.in_ok-decisions.ensures.are) in
    let some = some_variables (opponent (reduced_quantifier side)) (pairs c.args.formula.now.blocks) in omega (arith, long, all, some)
