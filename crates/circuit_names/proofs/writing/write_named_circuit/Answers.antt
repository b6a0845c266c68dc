use Rattle.qbf_text.proofs.SentParts.{part_fails, part_then}
use Rattle.circuit_names.proofs.writing.write_named_circuit.Goals as goal

pub returns-in_err-write_unnamed : goal.returns-in_err-write_unnamed
returns-in_err-write_unnamed g c = part_fails _ _ c.from_residual.ensures.1 c.in_err-write_unnamed.ensures

pub returns : goal.returns
returns g c = part_then c.in_ok-write_unnamed.ensures c.put_symbols.ensures
