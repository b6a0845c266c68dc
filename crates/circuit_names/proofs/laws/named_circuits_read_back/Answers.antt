use Rattle.circuit_names.proofs.ReadNames.{named_circuits_read_back}
use Rattle.circuit_names.proofs.laws.named_circuits_read_back.Goals as goal

pub returns : goal.returns
returns c = named_circuits_read_back
