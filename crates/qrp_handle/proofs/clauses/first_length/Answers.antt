use Rattle.std.proofs.Common.{arith}
use Rattle.qrp_handle.proofs.Splitting.{whole_split}
use Rattle.qrp_handle.proofs.clauses.first_length.Goals as goal

pub returns-clause-first : goal.returns-clause-first
returns-clause-first c = λ some. whole_split c.args.written.now c.loop-i.i some (omega (arith, c.loop-i-test.false)) c.loop-i.invariant
