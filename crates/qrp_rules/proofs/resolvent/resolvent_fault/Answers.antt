use Rattle.qrp_rules.proofs.UnreducedParents.{answers_as_before}
use Rattle.qrp_rules.proofs.resolvent.resolvent_fault.Goals as goal

pub returns-clause-fault : goal.returns-clause-fault
returns-clause-fault g c =
    rw (c.as_slice.ensures.value, c.as_slice-2.ensures.value, c.as_slice-3.ensures.value) at c.ordered_resolvent_fault.ensures

pub returns-clause-as_before : goal.returns-clause-as_before
returns-clause-as_before g c =
    answers_as_before c.args.rules g.S.Side.side c.args.prefix.now c.args.a.now c.args.b.now c.args.to.now c.ordered_resolvent_fault.result
    (rw (c.as_slice.ensures.value, c.as_slice-2.ensures.value, c.as_slice-3.ensures.value) at c.ordered_resolvent_fault.ensures)
