use Rattle.std.proofs.lemmas.Result.{IfOk-weaker}
use Rattle.qbf_strategy.proofs.ConditionGates.{decided_either}
use Rattle.qbf_strategy.proofs.conditions.decided.Goals as goal

pub returns-clause-value : goal.returns-clause-value
returns-clause-value c =
    IfOk-weaker c.either.result _ _
    (λ w is. decided_either _ c.args.entry.now.decision c.args.entry.now.value c.args.after c.args.work.now.gates c.condition.new.work.gates
    c.either.new.gates c.condition.new.work.conditions.items c.in_ok-condition.condition w c.in_ok-condition.ensures.value is)
    c.either.ensures.value
