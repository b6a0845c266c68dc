-- The results of reading a formula, and of trimming a trace.
use Rattle.std.specs.Prelude.{◌≡◌, ℕ, ◌-◌, ◌^◌, ◌<◌, List, Option, IfSome, Result, Ok, Err}
use Rattle.qbf_core.specs.Qbf.{Qbf}
use Rattle.qdimacs.specs.declared.fault.FormulaFault.{FormulaFault}
use Rattle.qdimacs.specs.declared.fault.FormulaFault.TheVariants.{F1, F9}
use Rattle.qdimacs.specs.Reading.{read_formula}
use Rattle.trace_items.specs.Derivations.{Derivation}
use Rattle.qrp.specs.Reading.{read_trace}
use Rattle.qrp_rules.specs.declared.rules.Rules.{Rules}
use Rattle.qrp_check.specs.declared.verdict.Fault.{Fault}
use Rattle.qrp_check.specs.Checked.{SourceCall, IsChecked}
use Rattle.core_walk.specs.Core.{ListsCore}
use Rattle.qrp_check.specs.Laws.{IsTrimmedProof}
use Rattle.trace_check.specs.Proof.{IsProof}
use Rattle.trace_check.specs.Trim.{trimmed_trace}

-- a source or a sink failed in a call: its count of failures rose, if it was below the limit before
abbrev pub DeviceFailed : ℕ → ℕ → Type 0
DeviceFailed before after = before < 2 ^ 64 - 1 → before < after

-- The fault of a formula's text, whose count of failures goes from `before` to `after`: the fault that the bytes spell, if they are known,
-- or F1 if the source failed, or F9 if an allocation failed, both on line 0.
abbrev pub IsFormulaRefused : Option (List ℕ) → ℕ → ℕ → FormulaFault → ℕ → Type 0
IsFormulaRefused bytes before after F1 n = (n ≡ 0) × DeviceFailed before after
IsFormulaRefused bytes before after F9 n = (n ≡ 0) × (after ≡ before)
IsFormulaRefused bytes before after e n = IfSome bytes (λ b. read_formula b ≡ Err (e, n)) × (after ≡ before)

-- a formula that was read is the one that the bytes spell, with no failure of the source
abbrev pub IsFormulaRead : SourceCall → Result Qbf (FormulaFault × ℕ) → Type 0
IsFormulaRead formula (Ok f) = IfSome formula.bytes (λ b. read_formula b ≡ Ok f) × (formula.after ≡ formula.before)
IsFormulaRead formula (Err e) = IsFormulaRefused formula.bytes formula.before formula.after e.0 e.1

-- The trace t is what the trace's bytes read as, without the steps that its goal does not need: a proof by itself, whose
-- text reads as it.
pub record IsTrimmedFrom (rules : Rules) (formula trace : List ℕ) (t : Derivation) : Type 0 where
  pub f : Qbf
  pub d : Derivation
  pub core : List ℕ
  pub reads_formula : read_formula formula ≡ Ok f
  pub reads_trace : read_trace trace ≡ Ok d
  pub lists : ListsCore d.steps core
  pub proves : IsProof rules f d
  pub is : t ≡ trimmed_trace d core
  pub whole : IsTrimmedProof rules f t

-- The result of trimming a trace: the trimmed trace, as far as the bytes are known, or a refusal as for a check.
abbrev pub IsTrimmed : Rules → SourceCall → SourceCall → Result Derivation Fault → Type 0
IsTrimmed rules formula trace (Ok t) =
    IfSome formula.bytes (λ a. IfSome trace.bytes (λ b. IsTrimmedFrom rules a b t)) × (formula.after ≡ formula.before)
    × (trace.after ≡ trace.before)
IsTrimmed rules formula trace (Err e) = IsChecked rules formula trace (Err e)
