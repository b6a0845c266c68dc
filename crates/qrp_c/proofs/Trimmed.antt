-- The trimmed trace of a proof that was handed over, or its refusal, as it is given to a caller in C.
use Rattle.std.proofs.Common.{◌≡◌, ◌≢◌, ◌↔◌, ℕ, Bool, IfErr, IfOk, IsTrue, OnOk, List, [], Result, Ok, Err, inl, inr, subst}
use Rattle.qbf_core.specs.Qbf.{Qbf}
use Rattle.qbf_core.specs.Truth.{IsTrueFormula}
use Rattle.qbf_text.specs.Pieces.{Kept}
use Rattle.qrp.specs.Grammar.{text}
use Rattle.trace_items.specs.Inferences.{Inference}
use Rattle.qrp_rules.specs.declared.rules.Rules.{Rules}
use Rattle.trace_check.specs.Proof.{IsFirstFault}
use Rattle.trace_check.specs.Trim.{trimmed_trace}
use Rattle.trace_check.specs.declared.fault.CheckFault.{CheckFault}
use Rattle.trace_check.specs.declared.fault.CheckFault.TheVariants.{C5}
use Rattle.qrp_check.specs.declared.verdict.Fault.TheVariants.{Check}
use Rattle.qrp_bytes.specs.Buffers.{IsWritten}
use Rattle.qrp_bytes.specs.Encoding.{encoded_fault, encoded_truth}
use Rattle.qrp_bytes.specs.declared.verdict.QrpVerdict.{QrpVerdict}
use Rattle.qrp_handle.specs.Checks.{HasCore, outcome_of}
use Rattle.qrp_handle.specs.Texts.{trace_written}
use Rattle.qrp_c.specs.Checked.{IsTrimmedOf}

-- the text that was made, or the fault, is given
pub trimmed_given : (rules : Rules) (f : Qbf) (steps : List Inference) (sat : Bool) (old new : List ℕ) (out : QrpVerdict) (count : ℕ)
    (made : Result Kept CheckFault)
    → IfOk made (λ s. (core : List ℕ) × HasCore rules f steps (outcome_of sat) core
    × (s.bytes ≡ text (trimmed_trace (trace_written f steps (outcome_of sat)) core)))
    → OnOk made (IsTrue sat ↔ IsTrueFormula f) → IfErr made (λ e. e ≢ C5 → IsFirstFault rules f [] steps (outcome_of sat) e)
    → IfOk made (λ s. (out ≡ encoded_truth sat) × IsWritten s.bytes old new count)
    → IfErr made (λ e. (out ≡ encoded_fault (Check e)) × IsWritten [] old new count) → IsTrimmedOf rules f steps sat old new out count
trimmed_given rules f steps sat old new out count (Ok s) has truth stands given refused =
    inl (record {
      verified = record { encoded = given.0; proves = has.1.proves; truth = truth };
      core = has.0;
      lists = has.1.lists;
      written = subst (λ (bytes : List ℕ). IsWritten bytes old new count) has.2 given.1;
    })
trimmed_given rules f steps sat old new out count (Err e) has truth stands given refused =
    inr (record { fault = e; encoded = refused.0; stands = stands }, refused.1)
