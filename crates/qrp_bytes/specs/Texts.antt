-- The results for a caller in C of a formula or a trace that is written, and of a core. The bytes are in memory, so only an allocation can
-- fail.
use Rattle.std.specs.Prelude.{◌≡◌, ℕ, List, ◌∷◌, [], Some, None, IfErr, Result, Ok, Err}
use Rattle.qbf_core.specs.Qbf.{Qbf}
use Rattle.qdimacs.specs.declared.fault.FormulaFault.{FormulaFault}
use Rattle.qdimacs.specs.Grammar as formulas
use Rattle.trace_items.specs.Derivations.{Derivation}
use Rattle.qrp.specs.Grammar as traces
use Rattle.trace_items.specs.Inferences.{numbers}
use Rattle.qrp_rules.specs.declared.rules.Rules.{Rules}
use Rattle.qrp_check.specs.declared.verdict.Fault.{Fault}
use Rattle.qrp_check.specs.declared.verdict.Fault.TheVariants as fault
use Rattle.trace_check.specs.Proof.{is_sat}
use Rattle.qrp_check.specs.Checked.{SourceCall}
use Rattle.qrp_report.specs.OfFaults.{NamesVariable}
use Rattle.qrp_report.specs.Results.{IsTrimmed, IsFormulaRead}
use Rattle.qrp_bytes.specs.declared.verdict.QrpVerdict.{QrpVerdict}
use Rattle.qrp_bytes.specs.Buffers.{IsWritten, IsListed}
use Rattle.qrp_bytes.specs.Encoding.{encoded_fault, encoded_truth}

-- Bytes that are lent. Only results are compared with it: those of reading, not what a source has left.
abbrev pub lent_bytes : List ℕ → SourceCall
lent_bytes bytes = record { bytes = Some bytes; rest = None; before = 0; after = 0; unpulled = Unit {0} }

-- the struct for a trimmed trace, or for a fault
abbrev pub encoded_trace : Result Derivation Fault → QrpVerdict
encoded_trace (Ok t) = encoded_truth (is_sat t.result)
encoded_trace (Err e) = encoded_fault e

-- the text of a trimmed trace
abbrev pub trace_text : Result Derivation Fault → List ℕ
trace_text (Ok t) = traces.text t
trace_text (Err e) = []

-- the numbers of its steps
abbrev pub step_numbers : Result Derivation Fault → List ℕ
step_numbers (Ok t) = numbers t.steps
step_numbers (Err e) = []

-- The struct has the truth that a proof shows, or the fault as for a check; and this holds of the trimmed trace, or of the fault.
pub record ProofReturns (rules : Rules) (formula trace : List ℕ) (out : QrpVerdict) (Holds : Result Derivation Fault → Type 0) : Type 0 where
  pub outcome : Result Derivation Fault
  pub trimmed : IsTrimmed rules (lent_bytes formula) (lent_bytes trace) outcome
  pub encoded : out ≡ encoded_trace outcome
  pub named : IfErr outcome NamesVariable
  pub holds : Holds outcome

-- The buffer holds the text of the trimmed trace.
abbrev pub TrimReturns : Rules → List ℕ → List ℕ → List ℕ → List ℕ → QrpVerdict → ℕ → Type 0
TrimReturns rules formula trace old new out returned =
    ProofReturns rules formula trace out (λ outcome. IsWritten (trace_text outcome) old new returned)

-- The list holds the numbers of the trimmed trace's steps: they are those of the core.
abbrev pub CoreReturns : Rules → List ℕ → List ℕ → List ℕ → List ℕ → QrpVerdict → ℕ → Type 0
CoreReturns rules formula trace old new out returned =
    ProofReturns rules formula trace out (λ outcome. IsListed (step_numbers outcome) old new returned)

-- the struct if nothing was verified or refused: all zeros
abbrev pub encoded_nothing : QrpVerdict
encoded_nothing = record { position = 0; status = 0; truth = 0; letter = 0; number = 0; rule = 0; reserved = 0 ∷ 0 ∷ 0 ∷ [] }

-- the struct for a formula's text
abbrev pub encoded_formula : Result Qbf (FormulaFault × ℕ) → QrpVerdict
encoded_formula (Ok f) = encoded_nothing
encoded_formula (Err e) = encoded_fault (fault.Formula e.0 e.1)

-- the canonical text of a formula that was read
abbrev pub formula_text : Result Qbf (FormulaFault × ℕ) → List ℕ
formula_text (Ok f) = formulas.text f
formula_text (Err e) = []

-- The struct has zeros or the formula's fault; the buffer holds the canonical text of the formula.
pub record FormatReturns (formula old new : List ℕ) (out : QrpVerdict) (returned : ℕ) : Type 0 where
  pub outcome : Result Qbf (FormulaFault × ℕ)
  pub reads : IsFormulaRead (lent_bytes formula) outcome
  pub encoded : out ≡ encoded_formula outcome
  pub written : IsWritten (formula_text outcome) old new returned
