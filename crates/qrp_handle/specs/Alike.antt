-- The verdict on what was handed over is that on its texts.
use Rattle.std.specs.Prelude.{◌↔◌, List, []}
use Rattle.qbf_core.specs.Qbf.{Qbf}
use Rattle.trace_items.specs.Inferences.{Inference}
use Rattle.trace_items.specs.declared.item.Outcome.{Outcome}
use Rattle.qrp_rules.specs.declared.rules.Rules.{Rules}
use Rattle.trace_check.specs.declared.fault.CheckFault.{CheckFault}
use Rattle.trace_check.specs.Proof.{IsFirstFault, IsProof, Proves}
use Rattle.qrp_handle.specs.Texts.{formula_written, trace_written}

-- the trace that is written is a proof exactly if the steps prove the result
abbrev pub ProvesAlike : Type 0
ProvesAlike = (rules : Rules) (f : Qbf) (steps : List Inference) (result : Outcome)
    → IsProof rules (formula_written f) (trace_written f steps result) ↔ Proves rules f [] steps result

-- a fault is the first of the texts exactly if it is the first of the steps
abbrev pub FailsAlike : Type 0
FailsAlike = (rules : Rules) (f : Qbf) (steps : List Inference) (result : Outcome) (e : CheckFault)
    → IsFirstFault rules (formula_written f) (trace_written f steps result).sets (trace_written f steps result).steps
    (trace_written f steps result).result e
    ↔ IsFirstFault rules f [] steps result e
