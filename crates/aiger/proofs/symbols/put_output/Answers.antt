use Rattle.qbf_text.proofs.SentParts.{part_fails, part_then}
use Rattle.aiger.proofs.symbols.put_output.Goals as goal

pub returns-in_err-put : goal.returns-in_err-put
returns-in_err-put g c = part_fails _ _ c.from_residual.ensures.1 c.in_err-put.ensures

pub returns : goal.returns
returns g c = part_then c.in_ok-put.ensures c.end_line.ensures
