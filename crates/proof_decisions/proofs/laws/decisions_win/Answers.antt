use Rattle.proof_decisions.proofs.Winning.{decisions_win}
use Rattle.proof_decisions.proofs.laws.decisions_win.Goals as goal

pub returns : goal.returns
returns c = decisions_win
