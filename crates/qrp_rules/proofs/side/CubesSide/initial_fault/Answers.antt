use Rattle.qrp_rules.proofs.side.CubesSide.initial_fault.Goals as goal

pub returns-clause-answer : goal.returns-clause-answer
returns-clause-answer c = rw c.as_slice.ensures.value at c.initial_cube_fault.ensures
