use Rattle.gate_clauses.proofs.Closed.{encoding_is_closed, steps_make_the_encoding}
use Rattle.gate_clauses.proofs.Truth.{encoding_keeps_the_truth}
use Rattle.gate_clauses.proofs.laws.the_encoding_is_the_question.Goals as goal

pub returns : goal.returns
returns c = record { truth = encoding_keeps_the_truth; closed = encoding_is_closed; steps = steps_make_the_encoding }
