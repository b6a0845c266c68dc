use Rattle.core_walk.proofs.Cited.{resolvent_answer, same_self}
use Rattle.core_walk.proofs.step.fault_of_resolvent.Goals as goal

pub returns : goal.returns
returns g c =
    resolvent_answer c.args.context.rules g.S.Side.side c.args.context.formula.now.blocks c.normal_form.result.now c.args.a.now
    c.normal_form-2.result.now c.args.b.now c.args.set.now c.args.set.now c.ordered_resolvent_fault.result
    (rw c.normal_form.ensures c.in_ok-own_a.ensures.members) (rw c.normal_form-2.ensures c.in_ok-own_b.ensures.members)
    (same_self c.args.set.now) (rw c.prefix-prefix.ensures.value at c.ordered_resolvent_fault.ensures)
