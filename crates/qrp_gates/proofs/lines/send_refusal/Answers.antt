use Rattle.qrp_gates.proofs.lines.send_refusal.Goals as goal

pub returns : goal.returns
returns g c = rw (← c.unverified_status.ensures) (c.finish_sent.ensures _ _ c.put_unverified-sent.ensures)
