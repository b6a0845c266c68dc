use Rattle.std.proofs.Common.{rules}
use Rattle.qrp_handle.proofs.ReadLiterals.{next_read, next_written}
use Rattle.qrp_handle.proofs.written.literals_of.Goals as goal

-- src/written.rt:31:5
pub loop-number-preserved : goal.loop-number-preserved
loop-number-preserved c = search (rules, next_read, next_written)
