use Rattle.aiger.proofs.ReadCircuits.{circuits_read_back}
use Rattle.aiger.proofs.laws.circuits_read_back.Goals as goal

pub returns : goal.returns
returns c = circuits_read_back
