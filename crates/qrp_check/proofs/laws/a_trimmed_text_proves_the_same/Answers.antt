use Rattle.qrp_check.proofs.TrimText.{trimmed_text_proves}
use Rattle.qrp_check.proofs.laws.a_trimmed_text_proves_the_same.Goals as goal

pub returns : goal.returns
returns c = trimmed_text_proves
