-- The meaning for a caller in C of a verdict on the bytes that it lends. They are in memory, so only an allocation can fail.
use Rattle.std.specs.Prelude.{◌≡◌, ◌↔◌, ◌⊎◌, ℕ, if◌then◌else◌, List, Some, IfErr, Result}
use Rattle.qbf_core.specs.Qbf.{Qbf}
use Rattle.qbf_core.specs.Truth.{IsTrueFormula, ResultHolds}
use Rattle.qdimacs.specs.Reading.{read_formula}
use Rattle.trace_items.specs.Derivations.{Derivation}
use Rattle.qrp.specs.Reading.{read_trace}
use Rattle.qrp_rules.specs.declared.rules.Rules.{Rules}
use Rattle.trace_check.specs.declared.verified.Verified.{Verified}
use Rattle.qrp_check.specs.declared.verdict.Fault.{Fault}
use Rattle.trace_check.specs.Proof.{side_of, is_sat}
use Rattle.qrp_check.specs.Verdict.{IsVerdict, IsOutOfMemory, IsFormulaDevice, IsTraceDevice, StandsOnLine}
use Rattle.qrp_check.specs.Headline.{Spell, IsShown}
use Rattle.qrp_bytes.specs.declared.verdict.QrpVerdict.{QrpVerdict}
use Rattle.qrp_bytes.specs.Encoding.{IsEncoded}

-- The headline: status 0 only if the bytes show it, and whenever they do, unless an allocation failed, which is status 4. And then the
-- formula is false if the trace says `r unsat` and true if it says `r sat`, and `truth` is 1 exactly if it is true.
pub record StructHeadline (rules : Rules) (formula trace : List ℕ) (out : QrpVerdict) : Type 0 where
  pub only : out.status ≡ 0 → IsShown rules formula trace
  pub wherever : IsShown rules formula trace → (out.status ≡ 0) ⊎ (out.status ≡ 4)
  pub truth : out.status ≡ 0 → (f : Qbf) (d : Derivation) → Spell formula trace f d
      → ResultHolds (side_of d.result) f × (out.truth ≡ (if is_sat d.result then 1 else 0)) × (out.truth ≡ 1 ↔ IsTrueFormula f)

-- The struct is that of a result: of the verdict on these bytes, or of out of memory, on line 0, and never of a failed device.
pub record VerifyReturns (rules : Rules) (formula trace : List ℕ) (out : QrpVerdict) : Type 0 where
  pub outcome : Result Verified Fault
  pub verdict : IsVerdict rules (read_formula formula) (Some (read_trace trace)) outcome ⊎ IsOutOfMemory outcome
  pub lines : IfErr outcome StandsOnLine
  pub works : (IsFormulaDevice outcome → ⊥) × (IsTraceDevice outcome → ⊥)
  pub is : IsEncoded outcome out
