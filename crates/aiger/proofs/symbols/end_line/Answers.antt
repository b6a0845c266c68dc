use Rattle.qbf_text.proofs.SentParts.{part_fails, part_then}
use Rattle.aiger.proofs.symbols.end_line.Goals as goal

pub returns-in_err-put_name : goal.returns-in_err-put_name
returns-in_err-put_name g c = part_fails _ _ c.from_residual.ensures.1 c.in_err-put_name.ensures

pub returns : goal.returns
returns g c = part_then c.in_ok-put_name.ensures c.put_bytes.ensures.put
