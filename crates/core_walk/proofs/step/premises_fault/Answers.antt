use Rattle.core_walk.proofs.step.premises_fault.Goals as goal

pub fault_of_resolvent-requires-clause-b : goal.fault_of_resolvent-requires-clause-b
fault_of_resolvent-requires-clause-b g c = (rw c.in-Two.is at c.requires.fit).1

pub returns-in-Two : goal.returns-in-Two
returns-in-Two g c = rw c.in-Two.is c.fault_of_resolvent.ensures
