-- From the verdict on what was read to the headline over the bytes.
use Rattle.std.specs.Prelude.{IsOk, IfOk}
use Rattle.std.proofs.Common.{◌≡◌, ◌↔◌, ◌⊎◌, ℕ, ◌≤◌, arith, inl, inr, Bool, IsTrue, List, Option, Some, None, length, refl, sym, subst, Result, Ok, Err, IfSome}
use Rattle.qbf_tokens.specs.declared.token.Comments.TheVariants.{Qrp}
use Rattle.qbf_tokens.specs.Tokens.{tokens}
use Rattle.qbf_gates.specs.Truth.{IsTrueGates}
use Rattle.trace_items.specs.Derivations.{Derivation}
use Rattle.qrp.specs.Reading.{read_trace}
use Rattle.qrp.specs.Returns.{reads_bytes}
use Rattle.qrp.specs.declared.fault.TraceFault.{TraceFault}
use Rattle.qrp.proofs.SpelledIsRead as traces_complete
use Rattle.qcir.specs.Reading.{Question, read_gates}
use Rattle.qcir.specs.declared.fault.QuestionFault.{QuestionFault}
use Rattle.qcir.proofs.Spelled.{reads_questions}
use Rattle.qrp_rules.specs.declared.rules.Rules.{Rules}
use Rattle.qrp_check.specs.Checked.{truth_of}
use Rattle.trace_check.specs.Proof.{IsProof, is_sat}
use Rattle.qrp_check.specs.Verdict as verdicts
use Rattle.qrp_check.specs.declared.verdict.Fault.{Fault}
use Rattle.qrp_check.specs.declared.verdict.Fault.TheVariants as faults
use Rattle.trace_check.specs.declared.verified.Verified.{Verified}
use Rattle.qrp_check.proofs.HeadlineOfVerdict.{trace_spelled}
use Rattle.trace_check.proofs.Verdicts.{verdict_is_one}
use Rattle.gate_verify.specs.declared.fault.Unverified.{Unverified}
use Rattle.gate_verify.specs.declared.fault.Unverified.TheVariants as fault
use Rattle.gate_verify.specs.Laws.{in_clauses}
use Rattle.gate_verify.specs.Faults.{HasFailed, IsOutOfMemory, IsQuestionDevice, IsTraceDevice}
use Rattle.gate_verify.specs.Checked.{IsVerdict}
use Rattle.gate_verify.specs.Headline.{Headline, IsShown, Spell}

-- the formula of gates and the proof that were read, if a truth is returned
record Found (rules : Rules) (question trace : List ℕ) (t : Bool) : Type 0 where
  pub q : Question
  pub d : Derivation
  pub reads_question : read_gates question ≡ Ok q
  pub reads_trace : read_trace trace ≡ Ok d
  pub proves : IsProof rules (in_clauses q.formula) d
  pub claim : t ≡ is_sat d.result
  pub truth : IsTrue t ↔ IsTrueGates q.formula

module _ (rules : Rules) (question trace : List ℕ) where
  found_by : (t : Bool) (q : Question) (s : Result Derivation (TraceFault × ℕ)) (v : Result Verified Fault) → read_gates question ≡ Ok q
      → read_trace trace ≡ s → IsTrue t ↔ IsTrueGates q.formula
      → verdicts.IsVerdict rules (Ok (in_clauses q.formula)) (Some s) v → Ok t ≡ truth_of v → Found rules question trace t
  found_by t q s (Err e) reads_q reads_d truth h is = absurd (cc is)
  found_by t q (Err e) (Ok v) reads_q reads_d truth h is = absurd (cc h)
  found_by t q (Ok d) (Ok v) reads_q reads_d truth (proves, lists, claim, other) is = record {
    q = q;
    d = d;
    reads_question = reads_q;
    reads_trace = reads_d;
    proves = proves;
    claim = cc (is, claim);
    truth = truth;
  }

  found_of : (t : Bool) (r : Result Question (QuestionFault × ℕ)) → read_gates question ≡ r
      → IsVerdict rules r (Some (read_trace trace)) (Ok t) → Found rules question trace t
  found_of t (Err e) reads_q h = absurd (cc h)
  found_of t (Ok q) reads_q (truth, (v, h, is)) = found_by t q (read_trace trace) v reads_q refl truth h is

  question_read : (q : Question) (d : Derivation) → Spell question trace q d → read_gates question ≡ Ok q
  question_read q d spelled = (reads_questions question q).1 spelled.question_spelled

  trace_read : (q : Question) (d : Derivation) → Spell question trace q d → read_trace trace ≡ Ok d
  trace_read q d spelled = traces_complete.spelled_is_read (tokens Qrp trace) d spelled.trace_spelled

  verified : (t : Bool) → Found rules question trace t → Headline rules question trace (Ok t)
  verified t w =
      let spelled : Spell question trace w.q w.d = record {
        question_spelled = (reads_questions question w.q).0 w.reads_question;
        trace_spelled = trace_spelled trace w.d w.reads_trace;
      } in record {
        only = λ is. record { q = w.q; d = w.d; spelled = spelled; proves = w.proves };
        wherever = λ shown few. inl refl;
        truth = λ q d other.
            let same_q : w.q ≡ q = cc (w.reads_question, question_read q d other) in
            let same_d : w.d ≡ d = cc (w.reads_trace, trace_read q d other) in
            rw (← same_q, ← same_d) (w.claim, w.truth);
      }

  not_both : (shown : IsShown rules question trace) (e g : Fault)
      → verdicts.IsVerdict rules (Ok (in_clauses shown.q.formula)) (Some (Ok shown.d)) (Err g) → ⊥
  not_both shown e (faults.Check c) h =
      (verdict_is_one rules (in_clauses shown.q.formula) shown.d.sets shown.d.steps shown.d.result c c).0 shown.proves h
  not_both shown e (faults.Formula g line) h = h
  not_both shown e (faults.Trace g line) h = h

  refused_by : (e : Unverified) (shown : IsShown rules question trace) → length (in_clauses shown.q.formula).clauses ≤ 2147483647
      → IsVerdict rules (Ok shown.q) (Some (Ok shown.d)) (Err e) → ⊥
  refused_by (fault.Question g line) shown few h = h
  refused_by fault.TooLong shown few h = omega (arith, few, h)
  refused_by (fault.Proof e) shown few (Ok v, h, is) = absurd (cc is)
  refused_by (fault.Proof e) shown few (Err g, h, is) = not_both shown e g h

  refused_not : (e : Unverified) (shown : IsShown rules question trace) → length (in_clauses shown.q.formula).clauses ≤ 2147483647
      → IsVerdict rules (read_gates question) (Some (read_trace trace)) (Err e) → ⊥
  refused_not e shown few h =
      let at_q = subst (λ (r : Result Question (QuestionFault × ℕ)). IsVerdict rules r (Some (read_trace trace)) (Err e))
      (question_read shown.q shown.d shown.spelled) h in
      refused_by e shown few
      (subst (λ (s : Result Derivation (TraceFault × ℕ)). IsVerdict rules (Ok shown.q) (Some s) (Err e))
      (trace_read shown.q shown.d shown.spelled) at_q)

  -- an allocation or a device failed
  failed : (e : Unverified) → IsOutOfMemory {V = Bool} (Err e) ⊎ (IsQuestionDevice {V = Bool} (Err e) ⊎ IsTraceDevice {V = Bool} (Err e))
      → HasFailed {V = Bool} (Err e)
  failed (fault.Question g line) (inl memory) = inr memory
  failed (fault.Question g line) (inr (inl device)) = inl device
  failed (fault.Question g line) (inr (inr none)) = absurd none
  failed fault.TooLong (inl none) = absurd none
  failed fault.TooLong (inr (inl none)) = absurd none
  failed fault.TooLong (inr (inr none)) = absurd none
  failed (fault.Proof g) (inl memory) = inl memory
  failed (fault.Proof g) (inr (inl none)) = absurd none
  failed (fault.Proof g) (inr (inr device)) = inr device

  headline_known : (result : Result Bool Unverified)
      → IsVerdict rules (read_gates question) (Some (read_trace trace)) result
      ⊎ (IsOutOfMemory result ⊎ (IsQuestionDevice result ⊎ IsTraceDevice result))
      → Headline rules question trace result
  headline_known (Ok t) (inl h) = verified t (found_of t (read_gates question) refl h)
  headline_known (Ok t) (inr (inl h)) = absurd h
  headline_known (Ok t) (inr (inr (inl h))) = absurd h
  headline_known (Ok t) (inr (inr (inr h))) = absurd h
  headline_known (Err e) (inl h) = record {
    only = λ is. absurd (cc is);
    wherever = λ shown few. absurd (refused_not e shown few h);
    truth = tt;
  }
  headline_known (Err e) (inr aside) = record { only = λ is. absurd (cc is); wherever = λ shown few. inr (failed e aside); truth = tt }

pub headline : (rules : Rules) (question trace : Option (List ℕ)) (read : Result Question (QuestionFault × ℕ)) (result : Result Bool Unverified)
    → IfSome question (λ bytes. read ≡ read_gates bytes)
    → IsVerdict rules read (reads_bytes trace) result ⊎ (IsOutOfMemory result ⊎ (IsQuestionDevice result ⊎ IsTraceDevice result))
    → IfSome question (λ a. IfSome trace (λ b. Headline rules a b result))
headline rules None trace read result reads h = tt
headline rules (Some a) None read result reads h = tt
headline rules (Some a) (Some b) read result reads h =
    headline_known rules a b result (subst (λ (r : Result Question (QuestionFault × ℕ)). IsVerdict rules r (Some (read_trace b)) result
    ⊎ (IsOutOfMemory result ⊎ (IsQuestionDevice result ⊎ IsTraceDevice result))) reads h)
