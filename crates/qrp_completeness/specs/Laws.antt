-- The checker is complete: if a result holds, steps prove it, and for a small formula a trace does.
use Rattle.std.specs.Prelude.{◌≡◌, ◌↔◌, ◌⊎◌, ℕ, ◌<◌, ◌≤◌, ◌^◌, List, [], length, Ok, IsOk, Result}
use Rattle.qbf_core.specs.Blocks.{pairs}
use Rattle.qbf_core.specs.Rules.{Side, deciding_quantifier}
use Rattle.qbf_core.specs.Qbf.{Qbf, IsWellFormed as IsWellFormedFormula}
use Rattle.qbf_core.specs.Truth.{ResultHolds}
use Rattle.qdimacs.specs.Reading.{read_formula}
use Rattle.trace_items.specs.declared.item.Outcome.{Outcome}
use Rattle.trace_items.specs.Inferences.{Inference}
use Rattle.trace_items.specs.Derivations.{Derivation, AreGrammatical, IsWellFormed}
use Rattle.qrp.specs.Grammar.{text}
use Rattle.qrp.specs.Reading.{read_trace}
use Rattle.qrp_rules.specs.declared.rules.Rules.{Rules}
use Rattle.trace_check.specs.declared.verified.Verified.{Verified}
use Rattle.qrp_check.specs.declared.verdict.Fault.{Fault}
use Rattle.qrp_check.specs.Headline.{IsShown, Headline}
use Rattle.trace_check.specs.Proof.{side_of, Proves, IsProof}
use Rattle.trace_check.specs.Unreduced.{ProvesUnreduced}
use Rattle.qrp_check.specs.Verdict.{IsOutOfMemory, IsFormulaDevice, IsTraceDevice}
use Rattle.qbf_completeness.specs.Laws.{count_of, step_limit}

-- grammatical steps, fewer than `step_limit`, that prove this result of f by any rules, with parents as they stand or reduced before, and
-- without quantifier sets
pub record HasProof (f : Qbf) (result : Outcome) : Type 0 where
  pub steps : List Inference
  pub grammatical : AreGrammatical [] steps
  pub few : length steps < step_limit (side_of result) f
  pub unreduced : (rules : Rules) → ProvesUnreduced rules f [] steps result
  pub proves : (rules : Rules) → Proves rules f [] steps result

-- if a result holds, there are steps that prove it
abbrev pub EachResultHasAProof : Type 0
EachResultHasAProof = (f : Qbf) (result : Outcome) → IsWellFormedFormula f → ResultHolds (side_of result) f → HasProof f result

-- a result holds exactly if some steps prove it
abbrev pub ResultsAreProofs : Type 0
ResultsAreProofs = (rules : Rules) (f : Qbf) (result : Outcome) → IsWellFormedFormula f
    → ResultHolds (side_of result) f ↔ ((steps : List Inference) × Proves rules f [] steps result)

-- The numbers of the steps of a trace (QRP of QBFcert) have 64 bits here: a formula is small if its `step_limit` is at most 2 ^ 64.
abbrev pub IsSmall : Side → Qbf → Type 0
IsSmall side f = step_limit side f ≤ 2 ^ 64

-- a formula is small if it has at most 63 variables, or at most 32 that its side resolves on
abbrev pub FewVariablesAreSmall : Type 0
FewVariablesAreSmall = (f : Qbf) (side : Side) → IsWellFormedFormula f
    → (length (pairs f.blocks) ≤ 63 → IsSmall side f)
    × (count_of (deciding_quantifier side) (pairs f.blocks) ≤ 32 → IsSmall side f)

-- a trace that is well formed, reads as it is written, and proves this result of f by any rules
pub record HasTrace (f : Qbf) (result : Outcome) : Type 0 where
  pub trace : Derivation
  pub states : trace.result ≡ result
  pub well_formed : IsWellFormed trace
  pub reads : read_trace (text trace) ≡ Ok trace
  pub proves : (rules : Rules) → IsProof rules f trace

-- if a result holds of a small formula, there is such a trace
abbrev pub SmallResultsHaveTraces : Type 0
SmallResultsHaveTraces = (f : Qbf) (result : Outcome) → IsWellFormedFormula f → IsSmall (side_of result) f
    → ResultHolds (side_of result) f → HasTrace f result

-- a result for which the headline holds on these bytes is Verified, unless an allocation or a device failed
abbrev pub AreVerified : Rules → List ℕ → List ℕ → Type 0
AreVerified rules formula trace = (result : Result Verified Fault) → Headline rules formula trace result
    → IsOk result ⊎ (IsOutOfMemory result ⊎ (IsFormulaDevice result ⊎ IsTraceDevice result))

-- the bytes (QDIMACS 1.1) of a small formula are verified with those of some trace
abbrev pub SmallFormulasAreVerified : Type 0
SmallFormulasAreVerified = (formula : List ℕ) (f : Qbf) (result : Outcome) → read_formula formula ≡ Ok f → IsSmall (side_of result) f
    → ResultHolds (side_of result) f
    → (trace : List ℕ) × ((rules : Rules) → IsShown rules formula trace × AreVerified rules formula trace)
