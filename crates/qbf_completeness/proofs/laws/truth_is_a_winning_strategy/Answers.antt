use Rattle.qbf_completeness.proofs.Playing.{truth_is_won, falsity_is_won}
use Rattle.qbf_completeness.proofs.laws.truth_is_a_winning_strategy.Goals as goal

pub returns : goal.returns
returns c = record { won = truth_is_won; lost = falsity_is_won }
