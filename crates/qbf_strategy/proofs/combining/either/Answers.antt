use Rattle.qbf_strategy.proofs.ConditionGates.{either_is}
use Rattle.qbf_strategy.proofs.combining.either.Goals as goal

pub returns-clause-value : goal.returns-clause-value
returns-clause-value c =
    either_is c.args.gates.now c.and.new.self c.args.condition c.args.value c.args.after c.opposite.result c.turned.result c.in_ok-wire.wire
    c.turned-2.result c.opposite.ensures c.turned.ensures c.turned-2.ensures c.and.ensures.grows c.and.ensures.one c.in_ok-wire.ensures.below
    c.in_ok-wire.ensures.value
