use Rattle.trace_check.proofs.CoreTruth.{core_keeps}
use Rattle.trace_check.proofs.laws.core_steps_keep_the_truth.Goals as goal

pub returns : goal.returns
returns c = core_keeps
