use Rattle.std.proofs.Common.{refl}
use Rattle.qrp_cli.proofs.running.send_proof.Goals as goal

pub returns-in-Ok : goal.returns-in-Ok
returns-in-Ok g c = λ rules. rw c.in-Ok.is (c.send_trimmed.ensures, refl)
