use Rattle.qbf_strategy.proofs.Moves.{decisions_are_a_strategy}
use Rattle.qbf_strategy.proofs.laws.decisions_are_a_strategy.Goals as goal

pub returns : goal.returns
returns c = decisions_are_a_strategy
