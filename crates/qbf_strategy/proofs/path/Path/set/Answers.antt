use Rattle.std.proofs.Common.{List, refl, subst}
use Rattle.std.proofs.lemmas.List.{take_rest}
use Rattle.aiger.specs.Building.{next_of}
use Rattle.aiger.specs.Wires.{Wire}
use Rattle.qbf_strategy.specs.Conditions.{IsConjunction}
use Rattle.qbf_strategy.proofs.ConditionGates.{below_grown}
use Rattle.qbf_strategy.proofs.PathValues.{below_rest, set_is}
use Rattle.qbf_strategy.proofs.path.Path.set.Goals as goal

pub conjunction-requires : goal.conjunction-requires
conjunction-requires c =
    below_rest (next_of c.leave_all.new.gates) c.reach-until.result c.args.wires.now
    (below_grown c.args.gates.now c.leave_all.new.gates c.args.wires.now c.in_ok-leave_all.ensures.moved.grows c.requires.wires)

pub returns : goal.returns
returns c =
    let rest = subst (λ (ws : List Wire). IsConjunction c.leave_all.new.gates c.conjunction.new.gates ws c.in_ok-rest.rest)
    (take_rest c.args.wires.now c.reach-until.result) c.in_ok-rest.ensures.value in
    set_is c.args.value c.args.gates.now c.leave_all.new.gates c.conjunction.new.gates c.either.new.gates c.args.self.now
    c.leave_all.new.self c.take_turns.new.self _ c.in_ok-rest.rest c.args.wires.now c.reach-until.result
    c.in_ok-leave_all.ensures.moved c.in_ok-take_turns.ensures.moved c.in_ok-take_turns.ensures.takes rest c.in_ok-self.ensures.value refl
