use Rattle.qrp_report.proofs.ResultsOfBytes.{found_trimmed}
use Rattle.qrp_bytes.proofs.proving.lent_proof.Goals as goal

pub returns-clause-trimmed : goal.returns-clause-trimmed
returns-clause-trimmed c =
    rw (← c.new-formula_source.ensures.made, ← c.new-trace_source.ensures.made)
    (found_trimmed c.args.rules _ _ c.find_proof.result c.find_proof.ensures.checked.verdict c.find_proof.ensures.source.reads)
