-- The results for a caller in C of a formula of gates: the verdict on it, its clauses, and the winner's circuit. The bytes are in memory, so
-- only an allocation can fail.
use Rattle.std.specs.Prelude.{◌≡◌, ◌≢◌, ◌↔◌, ◌⊎◌, ℕ, ◌≤◌, Bool, if◌then◌else◌, List, [], Some, length, Result, Ok, Err}
use Rattle.circuit_names.specs.Symbols.{named_text}
use Rattle.qbf_core.specs.Qbf.{Qbf}
use Rattle.qbf_gates.specs.Truth.{IsTrueGates}
use Rattle.qcir.specs.Grammar.{IsQuestion}
use Rattle.qcir.specs.Reading.{Question, read_gates}
use Rattle.qdimacs.specs.Grammar.{text}
use Rattle.trace_items.specs.Derivations.{Derivation}
use Rattle.qrp_rules.specs.declared.rules.Rules.{Rules}
use Rattle.trace_check.specs.Proof.{is_sat}
use Rattle.qrp_winner.specs.declared.strategy.Strategy.{Strategy}
use Rattle.gate_verify.specs.Checked.{IsChecked}
use Rattle.gate_verify.specs.Headline.{IsShown, Spell}
use Rattle.gate_verify.specs.Laws.{in_clauses}
use Rattle.gate_verify.specs.Made.{AreMadeOf}
use Rattle.gate_verify.specs.declared.fault.Unverified.{Unverified}
use Rattle.gate_strategy.specs.Strategies.{Follows, HasReason, HasWinner, IsOfWinner}
use Rattle.gate_strategy.specs.declared.fault.GateStrategyFault.{GateStrategyFault}
use Rattle.gate_strategy.specs.declared.fault.GateStrategyFault.TheVariants.{NoMemory}
use Rattle.qrp_bytes.specs.declared.verdict.QrpVerdict.{QrpVerdict}
use Rattle.qrp_bytes.specs.Buffers.{IsWritten}
use Rattle.qrp_bytes.specs.Encoding.{IsGatesEncoded, encoded_truth, encoded_unverified}
use Rattle.qrp_bytes.specs.Texts.{encoded_nothing, lent_bytes}

-- ---- the verdict

-- The headline: status 0 only if the bytes show it, and whenever they do, unless an allocation failed, which is status 4, or there are too many
-- clauses. And then `truth` is as the trace says, and 1 exactly if the formula of gates is true.
pub record GatesHeadline (rules : Rules) (formula trace : List ℕ) (out : QrpVerdict) : Type 0 where
  pub only : out.status ≡ 0 → IsShown rules formula trace
  pub wherever : (shown : IsShown rules formula trace) → length (in_clauses shown.q.formula).clauses ≤ 2147483647
      → (out.status ≡ 0) ⊎ (out.status ≡ 4)
  pub truth : out.status ≡ 0 → (q : Question) (d : Derivation) → Spell formula trace q d
      → (out.truth ≡ (if is_sat d.result then 1 else 0)) × (out.truth ≡ 1 ↔ IsTrueGates q.formula)

-- The struct is that of the result of the check of these bytes.
pub record GatesReturn (rules : Rules) (formula trace : List ℕ) (out : QrpVerdict) : Type 0 where
  pub outcome : Result Bool Unverified
  pub checked : IsChecked rules (lent_bytes formula) (lent_bytes trace) outcome
  pub is : IsGatesEncoded outcome out

-- ---- the clauses

-- the struct for clauses that were made: zeros, since nothing was checked
abbrev pub encoded_clauses : Result Qbf Unverified → QrpVerdict
encoded_clauses (Ok f) = encoded_nothing
encoded_clauses (Err e) = encoded_unverified e

-- the canonical text of the clauses
abbrev pub clauses_text : Result Qbf Unverified → List ℕ
clauses_text (Ok f) = text f
clauses_text (Err e) = []

-- The struct has zeros or the fault; the buffer holds the canonical text of the clauses.
pub record ClausesReturn (formula old new : List ℕ) (out : QrpVerdict) (returned : ℕ) : Type 0 where
  pub made : Result Qbf Unverified
  pub are : AreMadeOf (read_gates formula) made
  pub encoded : out ≡ encoded_clauses made
  pub written : IsWritten (clauses_text made) old new returned

-- The bytes spell a formula of gates, and the buffer holds the canonical text of its clauses, if it has room for it.
abbrev pub HoldsClauses : List ℕ → List ℕ → List ℕ → QrpVerdict → ℕ → Type 0
HoldsClauses formula old new out returned = (q : Question) × IsQuestion formula q × (out ≡ encoded_nothing)
    × IsWritten (text (in_clauses q.formula)) old new returned

-- ---- the winner's circuit

-- The verdict on the bytes, and the strategy that follows it, by which the winner wins; a circuit that is not made has a reason.
pub record IsGatesFound (rules : Rules) (formula trace : List ℕ) (verdict : Result Bool Unverified)
    (found : Result (Question × Strategy) GateStrategyFault) : Type 0 where
  pub checked : IsChecked rules (lent_bytes formula) (lent_bytes trace) verdict
  pub follows : Follows verdict found
  pub reason : HasReason (Some formula) (Some trace) found
  pub wins : HasWinner (Some formula) (Some trace) found

-- the text of a strategy's circuit, with the names of the formula of gates; it is empty if there is none
abbrev pub gates_circuit : (binary : Bool) → Result (Question × Strategy) GateStrategyFault → List ℕ
gates_circuit binary (Ok w) = named_text binary w.0.names w.1.circuit
gates_circuit binary (Err e) = []

-- The struct has the truth that a proof shows, or the fault as for a check. The buffer holds the text of a circuit by which the winner wins;
-- if none is made, the text is empty. Out of memory is a fault of the check.
pub record GatesStrategyReturns (rules : Rules) (binary : Bool) (formula trace old new : List ℕ) (out : QrpVerdict) (returned : ℕ) : Type 0 where
  pub verdict : Result Bool Unverified
  pub found : Result (Question × Strategy) GateStrategyFault
  pub is : IsGatesFound rules formula trace verdict found
  pub memory : found ≢ Err NoMemory
  pub encoded : IsGatesEncoded verdict out
  pub written : IsWritten (gates_circuit binary found) old new returned

-- The struct says that the formula of gates is verified, and the buffer holds the text of a circuit by which the winner wins, with the names of
-- the formula, if it has room for it.
abbrev pub HoldsGatesWinner : (binary : Bool) → List ℕ → List ℕ → List ℕ → List ℕ → QrpVerdict → ℕ → Type 0
HoldsGatesWinner binary formula trace old new out returned = (w : Question × Strategy) × IsOfWinner formula trace w
    × (out ≡ encoded_truth w.1.truth) × IsWritten (named_text binary w.0.names w.1.circuit) old new returned
