use Rattle.std.proofs.Common.{rules}
use Rattle.qbf_text.proofs.SentParts.{part_fails, part_then}
use Rattle.aiger.proofs.binary.put_two.Goals as goal

pub returns-in_err-put_number : goal.returns-in_err-put_number
returns-in_err-put_number g c = part_fails _ _ c.from_residual.ensures.1 c.in_err-put_number.ensures

pub returns : goal.returns
returns g c = part_then c.in_ok-put_number.ensures (search rules)
