-- From the strategy for the clauses of a formula of gates to the headline over the bytes.
use Rattle.std.specs.Prelude.{IfOk, IsOk}
use Rattle.std.specs.Result.{IsErrOf}
use Rattle.std.proofs.Common.{◌≡◌, ◌⊎◌, ℕ, Bool, arith, ap, List, Option, Some, None, inl, inr, refl, sym, subst, ◌∙◌}
use Rattle.std.proofs.Common.{Result, Ok, Err, IfSome}
use Rattle.qbf_core.specs.Qbf.{Qbf}
use Rattle.trace_items.specs.Derivations.{Derivation}
use Rattle.qbf_strategy.specs.Winning as games
use Rattle.qcir.specs.Reading.{Question, read_gates}
use Rattle.qcir.specs.declared.fault.QuestionFault.{QuestionFault}
use Rattle.qcir.proofs.Spelled.{reads_questions}
use Rattle.qrp_rules.specs.declared.rules.Rules.{Rules}
use Rattle.qrp_check.specs.Checked.{SourceCall, WasReadFrom, truth_of}
use Rattle.trace_check.specs.Proof.{is_sat}
use Rattle.qrp_check.specs.declared.verdict.Fault.{Fault}
use Rattle.trace_check.specs.declared.verified.Verified.{Verified}
use Rattle.qrp_check.proofs.HeadlineOfVerdict.{trace_spelled}
use Rattle.proof_decisions.specs.Sizes.{IsTooLong}
use Rattle.qrp_winner.specs.Strategies.{winner}
use Rattle.qrp_winner.specs.Strategies as clauses
use Rattle.qrp_winner.specs.declared.fault.StrategyFault.{StrategyFault}
use Rattle.qrp_winner.specs.declared.fault.StrategyFault.TheVariants as faults
use Rattle.qrp_winner.specs.declared.strategy.Strategy.{Strategy}
use Rattle.gate_verify.specs.Checked.{IsChecked, StopsOnceRead}
use Rattle.gate_verify.specs.Faults.{IsBeforeTrace, IsOutOfMemory, IsQuestionDevice}
use Rattle.gate_verify.specs.Headline.{Spell}
use Rattle.gate_verify.specs.Laws.{in_clauses}
use Rattle.gate_verify.specs.Made.{AreClausesOf, AreMade, AreMadeOf}
use Rattle.gate_verify.specs.declared.fault.Unverified.{Unverified}
use Rattle.gate_verify.specs.declared.fault.Unverified.TheVariants as fault
use Rattle.gate_verify.proofs.Told.{made_of}
use Rattle.gate_verify.proofs.Verdicts.{checked_of, of_check, refused_of, stops_of}
use Rattle.gate_strategy.specs.Winning.{IsWinningCircuit}
use Rattle.gate_strategy.specs.Strategies.{AreTooLong, Follows, HasReason, HasWinner, IsOfVerdict, IsOfWinner, fault_of, text_call}
use Rattle.gate_strategy.specs.declared.fault.GateStrategyFault.{GateStrategyFault}
use Rattle.gate_strategy.specs.declared.fault.GateStrategyFault.TheVariants.{Check, NoCircuit, NoMemory}

-- ---- the result follows the verdict

refusal_follows : (v : Result Verified Fault) (e : StrategyFault) → clauses.Follows v (Err e) → Follows (of_check (truth_of v)) (Err (fault_of e))
refusal_follows (Ok v) e (inl is) = inl (ap fault_of is)
refusal_follows (Ok v) e (inr is) = inr (ap fault_of is)
refusal_follows (Err g) e is = let same : e ≡ faults.Check g = cc is in ap (λ (f : StrategyFault). Err (fault_of f)) same

truth_follows : (v : Result Verified Fault) (q : Question) (s won : Strategy) → clauses.Follows v (Ok s) → won.truth ≡ s.truth
    → Follows (of_check (truth_of v)) (Ok (q, won))
truth_follows (Ok v) q s won is same = same ∙ is
truth_follows (Err g) q s won is same = absurd (cc is)

nothing_follows : (v : Result Verified Fault) (s : Strategy) → clauses.Follows v (Ok s) → Follows (of_check (truth_of v)) (Err NoMemory)
nothing_follows (Ok v) s is = inl refl
nothing_follows (Err g) s is = absurd (cc is)

-- ---- no circuit, or one

no_circuit : (e : StrategyFault) → IsErrOf {T = Question × Strategy} (Err (fault_of e)) NoCircuit → e ≡ faults.NoCircuit
no_circuit (faults.Check g) is = absurd (cc is)
no_circuit faults.NoMemory is = absurd (cc is)
no_circuit faults.NoCircuit is = refl

has_reason : (question trace : Option (List ℕ)) (e : GateStrategyFault) → (e ≡ NoCircuit → ⊥) → HasReason question trace (Err e)
has_reason None trace e not = tt
has_reason (Some a) None e not = tt
has_reason (Some a) (Some b) e not = λ is. absurd (not (cc is))

has_no_winner : (question trace : Option (List ℕ)) (e : GateStrategyFault) → HasWinner question trace (Err e)
has_no_winner None trace e = tt
has_no_winner (Some a) None e = tt
has_no_winner (Some a) (Some b) e = tt

was_made : (question trace : Option (List ℕ)) (q : Question) (won : Strategy) → HasReason question trace (Ok (q, won))
was_made None trace q won = tt
was_made (Some a) None q won = tt
was_made (Some a) (Some b) q won = λ is. absurd (cc is)

-- ---- the clauses were not made

not_read : (before after : Option (List ℕ)) (e : Unverified) → IsOk {T = Qbf} (Err e) ⊎ IsBeforeTrace {V = Qbf} (Err e)
    → StopsOnceRead before after (Err e)
not_read before after (fault.Question g line) early is = absurd is
not_read before after fault.TooLong early is = absurd is
not_read before after (fault.Proof g) (inl ok) is = absurd (cc ok)
not_read before after (fault.Proof g) (inr early) is = absurd early

module _ (rules : Rules) (question trace : SourceCall) where
  pub refused : (e : Unverified) → AreMade question (Err e) → trace.unpulled → trace.after ≡ trace.before
      → IsOfVerdict rules question trace (Err (Check e))
  refused e made unpulled kept = (
    Err e,
    refused_of rules question trace e made unpulled kept,
    not_read trace.bytes trace.rest e made.early,
    refl,
    has_reason question.bytes trace.bytes (Check e) (λ is. absurd (cc is)),
    has_no_winner question.bytes trace.bytes (Check e),
  )

-- ---- the clauses were made

module _ (text : List ℕ) (q : Question) (reads : read_gates text ≡ Ok q) where
  pub of_text : (result : Result Qbf Unverified) → AreMadeOf (Ok q) result → AreMade (text_call text) result
  of_text result of = made_of (text_call text) text result refl refl
      (subst (λ (read : Result Question (QuestionFault × ℕ)). AreMadeOf read result) (sym reads) of)

  spelled : (bytes : List ℕ) (d : Derivation) → WasReadFrom (Some bytes) d → Spell text bytes q d
  spelled bytes d (formed, read) = record {
    question_spelled = (reads_questions text q).0 reads;
    trace_spelled = trace_spelled bytes d read;
  }

module _ (rules : Rules) (trace : SourceCall) (q : Question) (f : Qbf) (made : AreMadeOf (Ok q) (Ok f)) where
  its_clauses : f ≡ in_clauses q.formula
  its_clauses = by made.made
    where
      by : AreClausesOf (Ok q) (Ok f) ⊎ IsOutOfMemory {V = Qbf} (Ok f) → f ≡ in_clauses q.formula
      by (inl (sound, is)) = is
      by (inr is) = absurd is

  pub wins_clauses : (s : Strategy) → clauses.IsStrategyOf rules f trace (Ok s)
      → games.IsWinningCircuit (winner s.truth) (in_clauses q.formula) s.circuit
  wins_clauses s w = subst (λ (g : Qbf). games.IsWinningCircuit (winner s.truth) g s.circuit) its_clauses w.wins.3

  module _ (text : List ℕ) (reads : read_gates text ≡ Ok q) where
    verdict : (s : Result Strategy StrategyFault) (w : clauses.IsStrategyOf rules f trace s) (r : Result (Question × Strategy) GateStrategyFault)
        → Follows (of_check (truth_of w.verdict)) r → HasReason (Some text) trace.bytes r → HasWinner (Some text) trace.bytes r
        → IsOfVerdict rules (text_call text) trace r
    verdict s w r follows reason wins = (
      of_check (truth_of w.verdict),
      checked_of rules (text_call text) trace f w.verdict (of_text text q reads (Ok f) made) w.checked,
      stops_of trace.bytes trace.rest w.verdict w.stops,
      follows,
      reason,
      wins,
    )

    pub no_strategy : (e : StrategyFault) → clauses.IsStrategyOf rules f trace (Err e)
        → IsOfVerdict rules (text_call text) trace (Err (fault_of e))
    no_strategy e w =
        verdict (Err e) w (Err (fault_of e)) (refusal_follows w.verdict e w.follows) (reason trace.bytes w.long)
        (has_no_winner (Some text) trace.bytes (fault_of e))
      where
        reason : (bytes : Option (List ℕ))
            → (IsErrOf {T = Strategy} (Err e) faults.NoCircuit → (d : Derivation) × WasReadFrom bytes d × IsTooLong f d)
            → HasReason (Some text) bytes (Err (fault_of e))
        reason None long = tt
        reason (Some b) long = λ is.
            let found = long (ap Err (no_circuit e is)) in
            (q, found.0, spelled text q reads b found.0 found.1, subst (λ (g : Qbf). IsTooLong g found.0) its_clauses found.2)

    pub not_cut : (s : Strategy) → clauses.IsStrategyOf rules f trace (Ok s) → IsOfVerdict rules (text_call text) trace (Err NoMemory)
    not_cut s w =
        verdict (Ok s) w (Err NoMemory) (nothing_follows w.verdict s w.follows)
        (has_reason (Some text) trace.bytes NoMemory (λ is. absurd (cc is))) (has_no_winner (Some text) trace.bytes NoMemory)

    pub cut : (s won : Strategy) → clauses.IsStrategyOf rules f trace (Ok s) → won.truth ≡ s.truth
        → IsWinningCircuit (winner won.truth) q.formula won.circuit → IsOfVerdict rules (text_call text) trace (Ok (q, won))
    cut s won w same wins =
        verdict (Ok s) w (Ok (q, won)) (truth_follows w.verdict q s won w.follows same) (was_made (Some text) trace.bytes q won)
        (winner_of trace.bytes w.wins.0 w.wins.1 w.wins.2)
      where
        winner_of : (bytes : Option (List ℕ)) (d : Derivation) → WasReadFrom bytes d → s.truth ≡ is_sat d.result
            → HasWinner (Some text) bytes (Ok (q, won))
        winner_of None d read claim = tt
        winner_of (Some b) d read claim = (d, spelled text q reads b d read, same ∙ claim, wins)

-- ---- the text came from a source

module _ (rules : Rules) (text : List ℕ) (question trace : SourceCall) (gave : IfSome question.bytes (λ bytes. text ≡ bytes))
    (works : question.after ≡ question.before) where
  checked_from : (v : Result Bool Unverified) → IsChecked rules (text_call text) trace v → IsChecked rules question trace v
  checked_from v w = record {
    read = w.read;
    reads = by question.bytes gave;
    verdict = w.verdict;
    question_failed = λ small. ((λ is. absurd (never is)), (λ less. absurd (omega (arith, less, works))));
    trace_failed = w.trace_failed;
    lines = w.lines;
    not_pulled = w.not_pulled;
  }
    where
      by : (bytes : Option (List ℕ)) → IfSome bytes (λ b. text ≡ b) → IfSome bytes (λ b. w.read ≡ read_gates b)
      by None is = tt
      by (Some b) is = subst (λ (given : List ℕ). w.read ≡ read_gates given) is w.reads

      never : IsQuestionDevice v → ⊥
      never is = let less = (w.question_failed (omega arith)).0 is in omega (arith, less)

  of_known : (Holds : List ℕ → Type 0) (bytes : Option (List ℕ)) → IfSome bytes (λ b. text ≡ b) → Holds text → IfSome bytes Holds
  of_known Holds None is holds = tt
  of_known Holds (Some b) is holds = subst Holds is holds

  -- the result for a text in memory is that for the source that gave it
  pub from_source : (result : Result (Question × Strategy) GateStrategyFault) → IsOfVerdict rules (text_call text) trace result
      → IsOfVerdict rules question trace result
  from_source result (v, checked, stops, follows, reason, wins) = (
    v,
    checked_from v checked,
    stops,
    follows,
    of_known (λ a. IfSome trace.bytes (λ b. IsErrOf result NoCircuit → AreTooLong a b)) question.bytes gave reason,
    of_known (λ a. IfSome trace.bytes (λ b. IfOk result (IsOfWinner a b))) question.bytes gave wins,
  )
