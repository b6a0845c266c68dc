use Rattle.std.proofs.Common.{refl}
use Rattle.qrp_strategy.proofs.running.send_strategy.Goals as goal

pub returns-in-Err-Check : goal.returns-in-Err-Check
returns-in-Err-Check g c = rw (c.in-Err-Check.is, c.in-Err-Check.field-0-is, ← c.in-Err-Check.fault-is) (c.send_fault.ensures, refl)
