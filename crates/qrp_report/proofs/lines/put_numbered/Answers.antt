use Rattle.qbf_text.proofs.SentParts.{part_fails, part_then}
use Rattle.qrp_report.proofs.lines.put_numbered.Goals as goal

pub returns-in_err-put_bytes : goal.returns-in_err-put_bytes
returns-in_err-put_bytes g c = part_fails _ _ c.from_residual.ensures.1 c.in_err-put_bytes.ensures.put

pub returns : goal.returns
returns g c = part_then c.in_ok-put_bytes.ensures.put c.put_number.ensures
