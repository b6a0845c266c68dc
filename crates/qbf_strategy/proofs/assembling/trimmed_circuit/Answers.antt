use Rattle.qbf_strategy.proofs.TrimmedCircuit.{computes_same}
use Rattle.qbf_strategy.proofs.assembling.trimmed_circuit.Goals as goal

pub returns-clause-computes : goal.returns-clause-computes
returns-clause-computes c = computes_same _ _ _ c.in_ok-circuit.circuit _ c.in_ok-circuit.ensures.computes c.in_ok-trimmed.ensures
