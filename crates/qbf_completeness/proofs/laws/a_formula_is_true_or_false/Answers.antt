use Rattle.qbf_completeness.proofs.Players.{decided}
use Rattle.qbf_completeness.proofs.laws.a_formula_is_true_or_false.Goals as goal

pub returns : goal.returns
returns c = decided
