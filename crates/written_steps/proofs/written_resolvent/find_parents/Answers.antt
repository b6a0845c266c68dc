use Rattle.written_steps.proofs.WrittenSteps.{resolved_whole}
use Rattle.written_steps.proofs.written_resolvent.find_parents.Goals as goal

pub returns : goal.returns
returns c =
    resolved_whole c.args.a.now c.args.b.now c.args.to.now _ _ c.negated-pivot.result _ c.negated-pivot.ensures c.set_each.ensures
    c.in-Some.ensures c.put_each.ensures
    (rw c.var.ensures at c.surely_has_each_but.ensures c.if-not-surely_has_each_but.false)
