use Rattle.qrp_bytes.proofs.GivenTexts.{proof_returned, fault_returned}
use Rattle.qrp_c.proofs.qrp_trim.Goals as goal

pub returns-in-Ok-clause-trims : goal.returns-in-Ok-clause-trims
returns-in-Ok-clause-trims c =
    let found = c.in-Ok.ensures.ok in
    proof_returned found.1 found.2 c.encode_truth.ensures (rw (c.bytes.ensures.bytes, found.3) at c.put_text.ensures.written)

pub returns-in-Err-clause-trims : goal.returns-in-Err-clause-trims
returns-in-Err-clause-trims c = fault_returned c.in-Err.fault c.in-Err.ensures.err c.encode_fault.ensures.encoded c.encode_fault.ensures.named
    c.put_text-in-Err.ensures.written
