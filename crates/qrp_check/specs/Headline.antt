-- The headline, over the bytes and the grammar of their tokens: for all formula and trace bytes, `verify` returns Verified exactly where
-- the bytes spell a closed prenex formula and a trace whose sets agree with it and whose last empty step, with all steps below that
-- one, follows by the rules; and whenever it returns Verified, that formula is false if the trace says `r unsat` and true if it
-- says `r sat`. This holds unless an allocation or a device failed.
use Rattle.std.specs.Prelude.{◌≡◌, ◌↔◌, ◌⊎◌, ℕ, IsTrue, List, IsOk, IfOk, Result}
use Rattle.qbf_core.specs.Qbf.{Qbf}
use Rattle.qbf_core.specs.Truth.{IsTrueFormula, ResultHolds}
use Rattle.qbf_tokens.specs.declared.token.Comments.TheVariants.{Qdimacs, Qrp}
use Rattle.qbf_tokens.specs.Lined.{without_lines}
use Rattle.qbf_tokens.specs.Tokens.{tokens}
use Rattle.qdimacs.specs.Grammar.{IsFormula}
use Rattle.trace_items.specs.Derivations.{Derivation}
use Rattle.qrp.specs.Grammar.{IsTrace}
use Rattle.qrp_rules.specs.declared.rules.Rules.{Rules}
use Rattle.trace_check.specs.declared.verified.Verified.{Verified}
use Rattle.qrp_check.specs.declared.verdict.Fault.{Fault}
use Rattle.trace_check.specs.Proof.{side_of, IsProof, is_sat}
use Rattle.qrp_check.specs.Verdict.{IsOutOfMemory, IsFormulaDevice, IsTraceDevice}

-- the bytes spell f, a closed prenex formula, and the trace d
pub record Spell (formula trace : List ℕ) (f : Qbf) (d : Derivation) : Type 0 where
  pub formula_spelled : IsFormula (without_lines (tokens Qdimacs formula)) f
  pub trace_spelled : IsTrace (without_lines (tokens Qrp trace)) d

-- The bytes spell a formula and a trace that proves its result of it: the sets agree, and the last empty step and all below it follow.
pub record IsShown (rules : Rules) (formula trace : List ℕ) : Type 0 where
  pub f : Qbf
  pub d : Derivation
  pub spelled : Spell formula trace f d
  pub proves : IsProof rules f d

-- The result is Verified only if the bytes show it, and whenever they do, unless an allocation or a device failed. And then the formula is
-- false if the trace says `r unsat` and true if it says `r sat`, and `truth` says which.
pub record Headline (rules : Rules) (formula trace : List ℕ) (result : Result Verified Fault) : Type 0 where
  pub only : IsOk result → IsShown rules formula trace
  pub wherever : IsShown rules formula trace
      → IsOk result ⊎ (IsOutOfMemory result ⊎ (IsFormulaDevice result ⊎ IsTraceDevice result))
  pub truth : IfOk result (λ v. (f : Qbf) (d : Derivation) → Spell formula trace f d
      → ResultHolds (side_of d.result) f × (v.truth ≡ is_sat d.result) × (IsTrue v.truth ↔ IsTrueFormula f))
