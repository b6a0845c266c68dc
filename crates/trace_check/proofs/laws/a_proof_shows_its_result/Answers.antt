use Rattle.trace_check.proofs.Soundness.{soundness}
use Rattle.trace_check.proofs.laws.a_proof_shows_its_result.Goals as goal

pub returns : goal.returns
returns c = soundness
