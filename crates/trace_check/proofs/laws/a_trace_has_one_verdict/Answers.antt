use Rattle.trace_check.proofs.Verdicts.{verdict_is_one}
use Rattle.trace_check.proofs.laws.a_trace_has_one_verdict.Goals as goal

pub returns : goal.returns
returns c = verdict_is_one
