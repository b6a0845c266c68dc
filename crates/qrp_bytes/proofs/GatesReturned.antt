-- From what was found of a formula of gates to what a caller in C gets.
use Rattle.std.proofs.Common.{rules, ◌≡◌, ◌≢◌, ◌∙◌, ◌⊎◌, ℕ, arith, Bool, List, [], refl, ap, sym, subst, Some, Result, Ok, Err, IsOk, inl, inr}
use Rattle.qbf_core.specs.Qbf.{Qbf}
use Rattle.qbf_gates.specs.Truth.{IsTrueGates}
use Rattle.qcir.proofs.Spelled.{reads_questions}
use Rattle.qcir.specs.Reading.{Question, read_gates}
use Rattle.qcir.specs.declared.fault.QuestionFault.{QuestionFault}
use Rattle.qcir.specs.declared.fault.QuestionFault.TheVariants.{Q11}
use Rattle.qdimacs.specs.Grammar.{text}
use Rattle.qrp_rules.specs.declared.rules.Rules.{Rules}
use Rattle.trace_check.specs.declared.fault.CheckFault.TheVariants.{C5}
use Rattle.qrp_check.specs.declared.verdict.Fault.TheVariants as proof
use Rattle.qrp_check.specs.Checked.{SourceCall}
use Rattle.qrp_winner.specs.declared.strategy.Strategy.{Strategy}
use Rattle.gate_verify.specs.Checked.{IsChecked}
use Rattle.gate_verify.specs.Faults.{HasFailed, IsOutOfMemory}
use Rattle.gate_verify.specs.Headline.{Headline}
use Rattle.gate_verify.specs.Laws.{in_clauses}
use Rattle.gate_verify.specs.Made.{AreClausesOf, AreMadeOf}
use Rattle.gate_verify.specs.declared.fault.Unverified.{Unverified}
use Rattle.gate_verify.specs.declared.fault.Unverified.TheVariants as fault
use Rattle.gate_strategy.specs.Strategies.{IsOfVerdict, text_call}
use Rattle.gate_strategy.specs.declared.fault.GateStrategyFault.{GateStrategyFault}
use Rattle.gate_strategy.specs.declared.fault.GateStrategyFault.TheVariants.{Check, NoCircuit, NoMemory}
use Rattle.gate_report.specs.Refusals.{question_refusal}
use Rattle.gate_report.specs.declared.refusal.GateRefusal.{GateRefusal}
use Rattle.qrp_bytes.specs.declared.verdict.QrpVerdict.{QrpVerdict}
use Rattle.qrp_bytes.specs.Buffers.{IsWritten}
use Rattle.qrp_bytes.specs.Encoding.{IsGatesEncoded, NamesItsVariable, checked_encoding, encoded_gates, encoded_truth, encoded_unverified}
use Rattle.qrp_bytes.specs.Gates.{clauses_text, encoded_clauses}
use Rattle.qrp_bytes.specs.Gates.{ClausesReturn, GatesHeadline, GatesStrategyReturns, HoldsClauses, HoldsGatesWinner, IsGatesFound, gates_circuit}
use Rattle.qrp_bytes.specs.Texts.{lent_bytes}
use Rattle.qrp_bytes.proofs.HeadlineOfStruct.{memory_is_four, not_zero, one_is_true, truth_number}

-- ---- sources that lend their bytes

pub checked_lent : (rules : Rules) (a b : List ℕ) (question called : SourceCall) (outcome : Result Bool Unverified)
    → IsChecked rules question called outcome → question.bytes ≡ Some a → question.before ≡ 0 → question.after ≡ 0
    → called.bytes ≡ Some b → called.before ≡ 0 → called.after ≡ 0 → IsChecked rules (lent_bytes a) (lent_bytes b) outcome
checked_lent rules a b question called outcome w is_a before_a after_a is_b before_b after_b = record {
  read = w.read;
  reads = rw is_a at w.reads;
  verdict = rw is_b at w.verdict;
  question_failed = rw (before_a, after_a) at w.question_failed;
  trace_failed = rw (before_b, after_b) at w.trace_failed;
  lines = w.lines;
  not_pulled = λ early. tt;
}

pub strategy_lent : (rules : Rules) (a b : List ℕ) (called : SourceCall) (found : Result (Question × Strategy) GateStrategyFault)
    → IsOfVerdict rules (text_call a) called found → called.bytes ≡ Some b → called.before ≡ 0 → called.after ≡ 0
    → (verdict : Result Bool Unverified) × IsGatesFound rules a b verdict found
strategy_lent rules a b called found (v, checked, stops, follows, reason, wins) is before after = (
  v,
  record {
    checked = checked_lent rules a b (text_call a) called v checked refl refl refl is before after;
    follows = follows;
    reason = rw is at reason;
    wins = rw is at wins;
  },
)

-- an allocation failed
pub memory_checked : (rules : Rules) (a b : List ℕ) → IsChecked rules (lent_bytes a) (lent_bytes b) (Err (fault.Proof (proof.Check C5)))
memory_checked rules a b = record {
  read = read_gates a;
  reads = refl;
  verdict = inr (inl refl);
  question_failed = λ small. ((λ is. absurd is), (λ less. absurd (omega (arith, less))));
  trace_failed = λ small. ((λ is. absurd is), (λ less. absurd (omega (arith, less))));
  lines = tt;
  not_pulled = λ early. absurd early;
}

pub memory_made : (read : Result Question (QuestionFault × ℕ)) → AreMadeOf read (Err (fault.Question Q11 0))
memory_made read =
    record { made = inr refl; lines = ((λ is. refl), (λ is. refl)); works = λ is. absurd (cc is); early = inr tt }

-- ---- the struct of a verdict

question_not_zero : (r : GateRefusal) → (encoded_gates r).status ≡ 0 → ⊥
question_not_zero r is = search rules

gates_not_zero : (e : Unverified) → (encoded_unverified e).status ≡ 0 → ⊥
gates_not_zero (fault.Question e n) is = question_not_zero (question_refusal e n) is
gates_not_zero fault.TooLong is = absurd (omega (arith, is))
gates_not_zero (fault.Proof e) is = not_zero e is

gates_memory_is_four : (e : Unverified) → IsOutOfMemory {V = Bool} (Err e) → (encoded_unverified e).status ≡ 4
gates_memory_is_four (fault.Question e n) is = rw is refl
gates_memory_is_four fault.TooLong is = absurd is
gates_memory_is_four (fault.Proof e) is = memory_is_four e is

-- no device is read
memory_alone : (rules : Rules) (a b : List ℕ) (e : Unverified) → IsChecked rules (lent_bytes a) (lent_bytes b) (Err e)
    → IsOk {T = Bool} (Err e) ⊎ HasFailed {V = Bool} (Err e) → IsOutOfMemory {V = Bool} (Err e)
memory_alone rules a b e checked (inl is) = absurd (cc is)
memory_alone rules a b (fault.Question g line) checked (inr (inl device)) =
    let less = (checked.question_failed (omega arith)).0 device in absurd (omega (arith, less))
memory_alone rules a b (fault.Question g line) checked (inr (inr memory)) = memory
memory_alone rules a b fault.TooLong checked (inr none) = absurd none
memory_alone rules a b (fault.Proof g) checked (inr (inl memory)) = memory
memory_alone rules a b (fault.Proof g) checked (inr (inr device)) =
    let less = (checked.trace_failed (omega arith)).0 device in absurd (omega (arith, less))

pub gates_headline : (rules : Rules) (a b : List ℕ) (outcome : Result Bool Unverified) → Headline rules a b outcome
    → IsChecked rules (lent_bytes a) (lent_bytes b) outcome → GatesHeadline rules a b (checked_encoding outcome)
gates_headline rules a b (Ok t) h checked = record {
  only = λ is. h.only refl;
  wherever = λ shown few. inl refl;
  truth = λ is q d spelled.
      let says = h.truth q d spelled in (ap truth_number says.0, one_is_true t (IsTrueGates q.formula) says.1);
}
gates_headline rules a b (Err e) h checked = record {
  only = λ is. absurd (gates_not_zero e is);
  wherever = λ shown few. inr (gates_memory_is_four e (memory_alone rules a b e checked (h.wherever shown few)));
  truth = λ is. absurd (gates_not_zero e is);
}

-- ---- clauses

-- the formula of gates whose clauses were made
question_of : (read : Result Question (QuestionFault × ℕ)) (f : Qbf) → AreClausesOf read (Ok f) ⊎ IsOutOfMemory {V = Qbf} (Ok f)
    → (q : Question) × (read ≡ Ok q) × (f ≡ in_clauses q.formula)
question_of (Ok q) f (inl (sound, is)) = (q, refl, is)
question_of (Err e) f (inl is) = absurd (cc is)
question_of read f (inr is) = absurd is

-- a text that is not empty is that of the clauses
pub clauses_held : {formula old new : List ℕ} {out : QrpVerdict} {returned : ℕ} → ClausesReturn formula old new out returned → returned ≢ 0
    → HoldsClauses formula old new out returned
clauses_held {formula} {old} {new} {out} {returned} h some = by h.made h.are h.encoded h.written
  where
    by : (made : Result Qbf Unverified) → AreMadeOf (read_gates formula) made → out ≡ encoded_clauses made
        → IsWritten (clauses_text made) old new returned → HoldsClauses formula old new out returned
    by (Ok f) are encoded written =
        let w = question_of (read_gates formula) f are.made in
        (w.0, (reads_questions formula w.0).0 w.1, encoded, subst (λ (g : Qbf). IsWritten (text g) old new returned) w.2 written)
    by (Err e) are encoded written = absurd (some written.0)

-- ---- strategies

-- a strategy was found, and its truth is that of the verdict
pub gates_found : (rules : Rules) (a b : List ℕ) (w : Question × Strategy)
    → (verdict : Result Bool Unverified) × IsGatesFound rules a b verdict (Ok w) → IsGatesFound rules a b (Ok w.1.truth) (Ok w)
gates_found rules a b w (Ok t, is) = subst (λ (truth : Bool). IsGatesFound rules a b (Ok truth) (Ok w)) (sym is.follows) is
gates_found rules a b w (Err e, is) = absurd (cc is.follows)

-- the fault of a strategy is that of the verdict
pub gates_refused : (rules : Rules) (a b : List ℕ) (e : Unverified)
    → (verdict : Result Bool Unverified) × IsGatesFound rules a b verdict (Err (Check e)) → IsChecked rules (lent_bytes a) (lent_bytes b) (Err e)
gates_refused rules a b e (Ok t, is) = by is.follows
  where
    by : (Check e ≡ NoMemory) ⊎ (Check e ≡ NoCircuit) → IsChecked rules (lent_bytes a) (lent_bytes b) (Err e)
    by (inl is) = absurd (cc is)
    by (inr is) = absurd (cc is)
gates_refused rules a b e (Err g, is) =
    let same : g ≡ e = cc is.follows in subst (λ (f : Unverified). IsChecked rules (lent_bytes a) (lent_bytes b) (Err f)) same is.checked

-- no circuit is made, and the trace is checked once more
pub gates_without_circuit : (rules : Rules) (a b : List ℕ) (truth : Bool)
    → (verdict : Result Bool Unverified) × IsGatesFound rules a b verdict (Err NoCircuit)
    → IsChecked rules (lent_bytes a) (lent_bytes b) (Ok truth) → IsGatesFound rules a b (Ok truth) (Err NoCircuit)
gates_without_circuit rules a b truth (v, is) again = record { checked = again; follows = inr refl; reason = is.reason; wins = tt }

-- a strategy is returned with the truth, or an empty text
pub gates_strategy_returned : {rules : Rules} {binary : Bool} {formula trace old new : List ℕ} {out : QrpVerdict} {returned : ℕ} {truth : Bool}
    {found : Result (Question × Strategy) GateStrategyFault} → IsGatesFound rules formula trace (Ok truth) found → found ≢ Err NoMemory
    → out ≡ encoded_truth truth → IsWritten (gates_circuit binary found) old new returned
    → GatesStrategyReturns rules binary formula trace old new out returned
gates_strategy_returned {truth = truth} {found = found} is memory encoded written =
    record { verdict = Ok truth; found = found; is = is; memory = memory; encoded = (encoded, tt); written = written }

-- a fault is returned
pub gates_strategy_refused : {rules : Rules} {binary : Bool} {formula trace old new : List ℕ} {out : QrpVerdict} {returned : ℕ} (e : Unverified)
    → IsChecked rules (lent_bytes formula) (lent_bytes trace) (Err e) → out ≡ encoded_unverified e → NamesItsVariable e
    → IsWritten [] old new returned → GatesStrategyReturns rules binary formula trace old new out returned
gates_strategy_refused e checked encoded named written = record {
  verdict = Err e;
  found = Err (Check e);
  is = record { checked = checked; follows = refl; reason = λ is. absurd (cc is); wins = tt };
  memory = λ is. absurd (cc is);
  encoded = (encoded, named);
  written = written;
}

-- a text that is not empty is that of a circuit that wins
held : (rules : Rules) (binary : Bool) (formula trace old new : List ℕ) (out : QrpVerdict) (returned : ℕ) (verdict : Result Bool Unverified)
    (found : Result (Question × Strategy) GateStrategyFault) → IsGatesFound rules formula trace verdict found → IsGatesEncoded verdict out
    → IsWritten (gates_circuit binary found) old new returned → returned ≢ 0 → HoldsGatesWinner binary formula trace old new out returned
held rules binary formula trace old new out returned (Ok t) (Ok w) is encoded written some =
    (w, is.wins, encoded.0 ∙ ap encoded_truth (sym is.follows), written)
held rules binary formula trace old new out returned (Err e) (Ok w) is encoded written some = absurd (cc is.follows)
held rules binary formula trace old new out returned verdict (Err e) is encoded written some = absurd (some written.0)

pub gates_winner_held : {rules : Rules} {binary : Bool} {formula trace old new : List ℕ} {out : QrpVerdict} {returned : ℕ}
    → GatesStrategyReturns rules binary formula trace old new out returned → returned ≢ 0
    → HoldsGatesWinner binary formula trace old new out returned
gates_winner_held h some = held _ _ _ _ _ _ _ _ h.verdict h.found h.is h.encoded h.written some
