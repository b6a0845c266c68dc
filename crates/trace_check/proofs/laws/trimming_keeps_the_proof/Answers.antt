use Rattle.trace_check.proofs.TrimKeeps.{trimming_keeps}
use Rattle.trace_check.proofs.TrimAgain.{trimmed_is_fixed}
use Rattle.trace_check.proofs.laws.trimming_keeps_the_proof.Goals as goal

pub returns : goal.returns
returns c = record { keeps = trimming_keeps; fixed = trimmed_is_fixed }
