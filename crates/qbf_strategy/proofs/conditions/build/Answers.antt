use Rattle.std.proofs.Common.{List, subst}
use Rattle.aiger.specs.Wires.{Wire}
use Rattle.qbf_strategy.specs.Conditions.{IsConjunction}
use Rattle.qbf_strategy.proofs.ConditionGates.{condition_built}
use Rattle.qbf_strategy.proofs.conditions.build.Goals as goal

pub returns-clause-value : goal.returns-clause-value
returns-clause-value c =
    let conjoined = subst
    (λ (wires : List Wire). IsConjunction c.args.work.now.gates c.conjunction.new.gates wires c.in_ok-wire.wire)
    c.deref.ensures.value c.in_ok-wire.ensures.value in
    condition_built _ c.args.work.now.gates c.conjunction.new.gates c.args.decision _ c.put_wires.new.room.wires.items
    c.args.work.now.conditions.items c.keep.new.conditions.items c.in_ok-wire.wire c.get-kept.ensures c.in_ok-put_wires.ensures
    conjoined
    c.requires.built.known c.keep.ensures
