use Rattle.qcir.proofs.Sound.{reads_well_formed}
use Rattle.qcir.proofs.Spelled.{reads_back, reads_questions}
use Rattle.qcir.proofs.laws.reading_laws.Goals as goal

pub returns : goal.returns
returns c = record { questions = reads_questions; well_formed = reads_well_formed; back = reads_back }
