use Rattle.core_walk.proofs.Cited.{rules, resolvent_conditions}
use Rattle.core_walk.proofs.CoreStep.{accepted_all}
use Rattle.core_walk.proofs.step.accepts_as_written.Goals as goal

pub accepts_resolvent-requires-clause-b : goal.accepts_resolvent-requires-clause-b
accepts_resolvent-requires-clause-b g c = rw c.prefix-prefix.ensures.value ((rw c.in-Two.is at c.requires.fit).1)

pub returns-in-Initial-clause-follows : goal.returns-in-Initial-clause-follows
returns-in-Initial-clause-follows g c = search (rules, accepted_all)

pub returns-in-One-clause-follows : goal.returns-in-One-clause-follows
returns-in-One-clause-follows g c = search (rules, accepted_all)

pub returns-in-Two-clause-follows : goal.returns-in-Two-clause-follows
returns-in-Two-clause-follows g c = rw c.in-Two.is (accepted_all c.accepts_resolvent.result
    (resolvent_conditions c.args.context.rules g.S.Side.side c.args.context.formula.now.blocks c.in-Two.a.now c.in-Two.b.now c.args.lits.now)
    c.args.context.formula.now.blocks c.args.lits.now (rw c.prefix-prefix.ensures.value at c.accepts_resolvent.ensures))
