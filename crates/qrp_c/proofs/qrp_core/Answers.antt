use Rattle.std.proofs.Common.{refl}
use Rattle.qrp_bytes.proofs.GivenTexts.{proof_returned, fault_returned}
use Rattle.qrp_c.proofs.qrp_core.Goals as goal

pub returns-in-Ok-clause-lists : goal.returns-in-Ok-clause-lists
returns-in-Ok-clause-lists c =
    let found = c.in-Ok.ensures.ok in
    proof_returned found.1 found.2 c.encode_truth.ensures (rw (c.deref.ensures.value, found.3) at c.put_numbers.ensures.listed)

pub returns-in-Err-clause-lists : goal.returns-in-Err-clause-lists
returns-in-Err-clause-lists c = fault_returned c.in-Err.fault c.in-Err.ensures.err c.encode_fault.ensures.encoded c.encode_fault.ensures.named
    (refl, λ fits. refl, λ less. refl)
