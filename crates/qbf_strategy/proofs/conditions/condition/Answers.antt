use Rattle.std.proofs.Common.{arith}
use Rattle.qbf_strategy.proofs.ConditionGates.{condition_there}
use Rattle.qbf_strategy.proofs.conditions.condition.Goals as goal

pub returns-in-Some-clause-value : goal.returns-in-Some-clause-value
returns-in-Some-clause-value c =
    condition_there _ c.args.work.now.gates c.args.work.now.conditions.items c.args.decision c.in-Some.wire c.requires.ready.there c.requires.built.known
    c.in-Some.ensures.0 c.in-Some.ensures.1
