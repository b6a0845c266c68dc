use Rattle.gate_strategy.proofs.Shown.{winners_win}
use Rattle.gate_strategy.proofs.laws.winners_win_the_gates.Goals as goal

pub returns : goal.returns
returns c = winners_win
