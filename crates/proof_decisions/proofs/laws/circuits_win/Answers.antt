use Rattle.proof_decisions.proofs.WinningCircuits.{circuits_win}
use Rattle.proof_decisions.proofs.laws.circuits_win.Goals as goal

pub returns : goal.returns
returns c = circuits_win
