use Rattle.std.proofs.Common.{rules}
use Rattle.qbf_text.proofs.SentParts.{part_fails, part_then}
use Rattle.aiger.proofs.ascii.put_beginning.Goals as goal

pub returns-in_err-put_header : goal.returns-in_err-put_header
returns-in_err-put_header g c = part_fails _ _ c.from_residual.ensures.1 c.in_err-put_header.ensures

pub returns : goal.returns
returns g c = part_then c.in_ok-put_header.ensures (search rules)
