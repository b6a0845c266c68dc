use Rattle.gate_verify.proofs.Shown.{proofs_show_the_gates}
use Rattle.gate_verify.proofs.laws.a_proof_shows_the_gates.Goals as goal

pub returns : goal.returns
returns c = proofs_show_the_gates
