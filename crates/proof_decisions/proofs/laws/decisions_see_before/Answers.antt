use Rattle.proof_decisions.proofs.WinningCircuits.{decisions_see_before}
use Rattle.proof_decisions.proofs.laws.decisions_see_before.Goals as goal

pub returns : goal.returns
returns c = decisions_see_before
