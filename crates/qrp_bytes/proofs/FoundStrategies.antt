-- From a strategy that was found, or from why there is none, to what a caller in C gets.
use Rattle.std.proofs.Common.{◌≡◌, ◌≢◌, ◌∙◌, ℕ, Bool, List, [], refl, ap, sym, Some, Result, Ok, Err, IfOk, inl, inr}
use Rattle.qbf_text.specs.Pieces.{Kept}
use Rattle.qrp_rules.specs.declared.rules.Rules.{Rules}
use Rattle.qdimacs.specs.Reading.{read_formula}
use Rattle.qrp.specs.Reading.{read_trace}
use Rattle.qrp_check.proofs.HeadlineOfVerdict.{Found, found_of}
use Rattle.qrp_check.specs.Checked.{IsChecked, IsTruthOf}
use Rattle.trace_check.specs.Proof.{is_sat}
use Rattle.qrp_check.specs.Verdict.{IsVerdictUnless}
use Rattle.qrp_check.specs.declared.verdict.Fault.{Fault}
use Rattle.trace_check.specs.declared.verified.Verified.{Verified}
use Rattle.qrp_winner.specs.Strategies.{Follows, HasReason, IsOfWinner}
use Rattle.qrp_winner.specs.declared.fault.StrategyFault.{StrategyFault}
use Rattle.qrp_winner.specs.declared.fault.StrategyFault.TheVariants.{Check, NoCircuit}
use Rattle.qrp_winner.specs.declared.strategy.Strategy.{Strategy}
use Rattle.qrp_report.specs.OfFaults.{NamesVariable}
use Rattle.qrp_bytes.specs.declared.verdict.QrpVerdict.{QrpVerdict}
use Rattle.qrp_bytes.specs.Buffers.{IsWritten}
use Rattle.qrp_bytes.specs.Encoding.{IsEncoded, encoded_fault, encoded_truth}
use Rattle.qrp_bytes.specs.Strategies.{HoldsWinner, IsFound, StrategyReturns, strategy_text}
use Rattle.qrp_bytes.specs.Texts.{lent_bytes}

-- a verdict on the bytes that a result follows
abbrev FollowsSome : Rules → List ℕ → List ℕ → Result Strategy StrategyFault → Type 0
FollowsSome rules formula trace found =
    (verdict : Result Verified Fault) × IsChecked rules (lent_bytes formula) (lent_bytes trace) verdict × Follows verdict found

-- what is returned with a truth
abbrev Returns : Rules → List ℕ → List ℕ → Bool → Result Strategy StrategyFault → Type 0
Returns rules formula trace truth found = (v : Verified) × IsFound rules formula trace (Ok v) found × (truth ≡ v.truth)

pub strategy_found : (rules : Rules) (formula trace : List ℕ) (s : Strategy) → FollowsSome rules formula trace (Ok s) → IsOfWinner formula trace s
    → Returns rules formula trace s.truth (Ok s)
strategy_found rules formula trace s (Ok v, checked, follows) wins =
    let is : IsFound rules formula trace (Ok v) (Ok s) = record {
      checked = checked;
      follows = follows;
      reason = λ is. absurd (cc is);
      wins = wins;
      memory = λ is. absurd (cc is);
    } in
    (v, is, follows)
strategy_found rules formula trace s (Err e, checked, follows) wins = absurd (cc follows)

-- the truth of a verdict is that which the bytes of the trace state
truth_stated : (rules : Rules) (formula trace : List ℕ) (v : Verified) → IsVerdictUnless rules (Some formula) (Some trace) (Ok v)
    → Found rules formula trace v
truth_stated rules formula trace v (inl h) = found_of rules formula trace v (read_formula formula) (read_trace trace) refl refl h
truth_stated rules formula trace v (inr (inl h)) = absurd h
truth_stated rules formula trace v (inr (inr (inl h))) = absurd h
truth_stated rules formula trace v (inr (inr (inr h))) = absurd h

same_truth : (rules : Rules) (formula trace : List ℕ) (v w : Verified) → IsChecked rules (lent_bytes formula) (lent_bytes trace) (Ok v)
    → IsChecked rules (lent_bytes formula) (lent_bytes trace) (Ok w) → v.truth ≡ w.truth
same_truth rules formula trace v w first second =
    let a = truth_stated rules formula trace v first.verdict in
    let b = truth_stated rules formula trace w second.verdict in
    let same : a.d ≡ b.d = cc (a.reads_trace, b.reads_trace) in
    a.claim ∙ ap (λ d. is_sat d.result) same ∙ sym b.claim

-- a truth that is returned is that of a verdict
pub truth_checked : (rules : Rules) (formula trace : List ℕ) (truth : Bool)
    → IsTruthOf (λ v. IsChecked rules (lent_bytes formula) (lent_bytes trace) v) (Ok truth)
    → (v : Verified) × IsChecked rules (lent_bytes formula) (lent_bytes trace) (Ok v) × (truth ≡ v.truth)
truth_checked rules formula trace truth (Ok v, checked, is) = (v, checked, cc is)
truth_checked rules formula trace truth (Err e, checked, is) = absurd (cc is)

-- no circuit is made, and the trace is checked once more
circuit_missing : (rules : Rules) (formula trace : List ℕ) (truth : Bool) → FollowsSome rules formula trace (Err NoCircuit)
    → HasReason (Some formula) (Some trace) (Err NoCircuit) → (w : Verified) → IsChecked rules (lent_bytes formula) (lent_bytes trace) (Ok w) → truth ≡ w.truth
    → Returns rules formula trace truth (Err NoCircuit)
circuit_missing rules formula trace truth (Ok v, checked, follows) reason w again is = (
  v,
  record { checked = checked; follows = follows; reason = reason; wins = tt; memory = λ is. absurd (cc is) },
  is ∙ same_truth rules formula trace w v again checked,
)
circuit_missing rules formula trace truth (Err e, checked, follows) reason w again is = absurd (cc follows)

pub truth_alone : (rules : Rules) (formula trace : List ℕ) (binary : Bool) (result : Result (Bool × Kept) Fault)
    → FollowsSome rules formula trace (Err NoCircuit) → HasReason (Some formula) (Some trace) (Err NoCircuit)
    → IfOk result (λ r. (v : Verified) × IsChecked rules (lent_bytes formula) (lent_bytes trace) (Ok v) × (r.0 ≡ v.truth) × (r.1.bytes ≡ []))
    → IfOk result (λ r. (v : Verified) × (found : Result Strategy StrategyFault) × IsFound rules formula trace (Ok v) found × (r.0 ≡ v.truth)
    × (r.1.bytes ≡ strategy_text binary found))
truth_alone rules formula trace binary (Ok r) follows reason (w, again, is, none) =
    let found = circuit_missing rules formula trace r.0 follows reason w again is in
    (found.0, Err NoCircuit, found.1, found.2, none)
truth_alone rules formula trace binary (Err e) follows reason given = tt

-- a strategy is returned with the truth, or an empty text
pub strategy_returned : {rules : Rules} {binary : Bool} {formula trace old new : List ℕ} {out : QrpVerdict} {returned : ℕ} {truth : Bool}
    {v : Verified} {found : Result Strategy StrategyFault} → IsFound rules formula trace (Ok v) found → truth ≡ v.truth
    → out ≡ encoded_truth truth → IsWritten (strategy_text binary found) old new returned
    → StrategyReturns rules binary formula trace old new out returned
strategy_returned {v = v} {found = found} is same encoded written =
    record { verdict = Ok v; found = found; is = is; encoded = (encoded ∙ ap encoded_truth same, tt); written = written }

-- a fault is returned
pub strategy_refused : {rules : Rules} {binary : Bool} {formula trace old new : List ℕ} {out : QrpVerdict} {returned : ℕ} (e : Fault)
    → IsChecked rules (lent_bytes formula) (lent_bytes trace) (Err e) → out ≡ encoded_fault e → NamesVariable e
    → IsWritten [] old new returned → StrategyReturns rules binary formula trace old new out returned
strategy_refused e checked encoded named written = record {
  verdict = Err e;
  found = Err (Check e);
  is = record { checked = checked; follows = refl; reason = λ is. absurd (cc is); wins = tt; memory = λ is. absurd (cc is) };
  encoded = (encoded, named);
  written = written;
}

-- a text that is not empty is that of a circuit that wins
held : (rules : Rules) (binary : Bool) (formula trace old new : List ℕ) (out : QrpVerdict) (returned : ℕ) (verdict : Result Verified Fault)
    (found : Result Strategy StrategyFault) → IsFound rules formula trace verdict found → IsEncoded verdict out
    → IsWritten (strategy_text binary found) old new returned → returned ≢ 0
    → HoldsWinner binary formula trace old new out returned
held rules binary formula trace old new out returned (Ok v) (Ok s) is encoded written some =
    (s, is.wins, encoded.0 ∙ ap encoded_truth (sym is.follows), written)
held rules binary formula trace old new out returned (Err e) (Ok s) is encoded written some = absurd (cc is.follows)
held rules binary formula trace old new out returned verdict (Err e) is encoded written some = absurd (some written.0)

pub winner_held : {rules : Rules} {binary : Bool} {formula trace old new : List ℕ} {out : QrpVerdict} {returned : ℕ}
    → StrategyReturns rules binary formula trace old new out returned → returned ≢ 0
    → HoldsWinner binary formula trace old new out returned
winner_held h some = held _ _ _ _ _ _ _ _ h.verdict h.found h.is h.encoded h.written some
