use Rattle.qbf_text.proofs.SentParts.{part_fails, part_then}
use Rattle.qrp.proofs.writing.put_lists.Goals as goal

pub returns-in_err-put_lits : goal.returns-in_err-put_lits
returns-in_err-put_lits g c = part_fails _ _ c.from_residual.ensures.1 c.in_err-put_lits.ensures

pub returns : goal.returns
returns g c = part_then c.in_ok-put_lits.ensures c.put_ants.ensures
