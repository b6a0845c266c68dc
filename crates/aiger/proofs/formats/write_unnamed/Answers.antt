use Rattle.aiger.proofs.formats.write_unnamed.Goals as goal

pub returns-then-binary : goal.returns-then-binary
returns-then-binary g c = rw c.if-binary.true c.put_unnamed_binary.ensures

pub returns-else-binary : goal.returns-else-binary
returns-else-binary g c = rw c.if-binary.false c.put_unnamed_ascii.ensures
