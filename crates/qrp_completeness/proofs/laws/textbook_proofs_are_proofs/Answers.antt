use Rattle.qrp_completeness.proofs.TextbookSteps.{textbook_proofs_are_proofs}
use Rattle.qrp_completeness.proofs.laws.textbook_proofs_are_proofs.Goals as goal

pub returns : goal.returns
returns c = textbook_proofs_are_proofs
