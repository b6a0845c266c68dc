use Rattle.std.proofs.Common.{refl}
use Rattle.qrp_gates.proofs.running.send_strategy.Goals as goal

pub returns-in-Ok : goal.returns-in-Ok
returns-in-Ok g c = rw c.in-Ok.is (c.send_named.ensures, refl)
