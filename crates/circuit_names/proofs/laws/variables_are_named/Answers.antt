use Rattle.circuit_names.proofs.TableLines.{variables_are_named}
use Rattle.circuit_names.proofs.laws.variables_are_named.Goals as goal

pub returns : goal.returns
returns c = variables_are_named
