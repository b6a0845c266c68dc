use Rattle.trace_check.proofs.StepFaults.{faults_exclude}
use Rattle.trace_check.proofs.laws.a_step_has_one_fault.Goals as goal

pub returns : goal.returns
returns c = faults_exclude
