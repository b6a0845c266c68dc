use Rattle.qbf_completeness.proofs.Deriving.{completeness}
use Rattle.qbf_completeness.proofs.laws.the_rules_are_complete.Goals as goal

pub returns : goal.returns
returns c = completeness
