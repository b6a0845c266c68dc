-- The headline, over the bytes and the grammars: for all bytes of a formula of gates and of a trace, `verify_question` returns a truth exactly
-- if the bytes spell a formula of gates and a trace that proves its result of the clauses of that formula; and whenever it does, the
-- formula of gates is false if the trace says `r unsat` and true if it says `r sat`. This holds unless an allocation or a device
-- failed, or there are more clauses than QDIMACS can count.
use Rattle.std.specs.Prelude.{◌≡◌, ◌↔◌, ◌⊎◌, ℕ, ◌≤◌, Bool, IsTrue, List, length, IsOk, IfOk, Result}
use Rattle.qbf_tokens.specs.declared.token.Comments.TheVariants.{Qrp}
use Rattle.qbf_tokens.specs.Lined.{without_lines}
use Rattle.qbf_tokens.specs.Tokens.{tokens}
use Rattle.qbf_gates.specs.Truth.{IsTrueGates}
use Rattle.trace_items.specs.Derivations.{Derivation}
use Rattle.qrp.specs.Grammar.{IsTrace}
use Rattle.qrp_rules.specs.declared.rules.Rules.{Rules}
use Rattle.trace_check.specs.Proof.{IsProof, is_sat}
use Rattle.qcir.specs.Reading.{Question}
use Rattle.qcir.specs.Grammar.{IsQuestion}
use Rattle.gate_verify.specs.declared.fault.Unverified.{Unverified}
use Rattle.gate_verify.specs.Faults.{HasFailed}
use Rattle.gate_verify.specs.Laws.{in_clauses}

-- the bytes spell q, a formula of gates with its names, and the trace d
pub record Spell (question trace : List ℕ) (q : Question) (d : Derivation) : Type 0 where
  pub question_spelled : IsQuestion question q
  pub trace_spelled : IsTrace (without_lines (tokens Qrp trace)) d

-- the bytes spell a formula of gates and a trace that proves its result of the clauses
pub record IsShown (rules : Rules) (question trace : List ℕ) : Type 0 where
  pub q : Question
  pub d : Derivation
  pub spelled : Spell question trace q d
  pub proves : IsProof rules (in_clauses q.formula) d

-- The result is a truth only if the bytes show it, and whenever they do, unless an allocation or a device failed or the clauses are too many.
-- And then the formula of gates is false if the trace says `r unsat` and true if it says `r sat`, and the truth says which.
pub record Headline (rules : Rules) (question trace : List ℕ) (result : Result Bool Unverified) : Type 0 where
  pub only : IsOk result → IsShown rules question trace
  pub wherever : (shown : IsShown rules question trace) → length (in_clauses shown.q.formula).clauses ≤ 2147483647
      → IsOk result ⊎ HasFailed result
  pub truth : IfOk result (λ t. (q : Question) (d : Derivation) → Spell question trace q d
      → (t ≡ is_sat d.result) × (IsTrue t ↔ IsTrueGates q.formula))
