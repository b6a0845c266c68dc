use Rattle.gate_strategy.proofs.Shown.{inputs_are_free}
use Rattle.gate_strategy.proofs.laws.inputs_of_gates_are_free.Goals as goal

pub returns : goal.returns
returns c = inputs_are_free
