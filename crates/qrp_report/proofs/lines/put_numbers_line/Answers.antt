use Rattle.qbf_text.proofs.SentParts.{part_fails, part_then}
use Rattle.qrp_report.proofs.lines.put_numbers_line.Goals as goal

pub returns-in_err-put_numbered : goal.returns-in_err-put_numbered
returns-in_err-put_numbered g c = part_fails _ _ c.from_residual.ensures.1 c.in_err-put_numbered.ensures

pub returns-in_err-put_numbered-2 : goal.returns-in_err-put_numbered-2
returns-in_err-put_numbered-2 g c = part_then c.in_ok-put_numbered.ensures
    (part_fails _ _ c.from_residual-in_err-put_numbered-2.ensures.1 c.in_err-put_numbered-2.ensures)

pub returns : goal.returns
returns g c = part_then c.in_ok-put_numbered.ensures (part_then c.in_ok-put_numbered-2.ensures c.put_byte.ensures.put)
