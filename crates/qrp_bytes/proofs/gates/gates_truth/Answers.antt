use Rattle.std.proofs.Common.{refl}
use Rattle.qrp_bytes.proofs.GatesReturned.{checked_lent}
use Rattle.qrp_bytes.proofs.gates.gates_truth.Goals as goal

pub returns-clause-checked : goal.returns-clause-checked
returns-clause-checked c =
    rw (← c.new-formula_source.ensures.made, ← c.new-trace_source.ensures.made)
    (checked_lent c.args.rules _ _ _ _ c.verify_question.result c.verify_question.ensures.checked refl refl refl refl refl refl)
