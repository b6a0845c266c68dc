use Rattle.qrp_program.proofs.sending.send_fault.Goals as goal

pub returns : goal.returns
returns g c = rw (← c.of-refusal.ensures.is, ← c.status.ensures) (c.finish_sent.ensures _ _ c.put_refusal-sent.ensures)
