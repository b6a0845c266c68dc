use Rattle.core_walk.proofs.Cited.{reduct_answer, same_self}
use Rattle.core_walk.proofs.step.fault_of_reduct.Goals as goal

pub returns : goal.returns
returns g c =
    reduct_answer g.S.Side.side c.args.context.formula.now.blocks c.normal_form.result.now c.args.from.now c.args.set.now c.args.set.now
    c.ordered_reduct_fault.result (rw c.normal_form.ensures c.in_ok-own.ensures.members) (same_self c.args.set.now)
    (rw c.prefix-prefix.ensures.value at c.ordered_reduct_fault.ensures)
