-- From the check of the clauses to the verdict on the formula of gates.
use Rattle.std.specs.Prelude.{IfErr, IsOk}
use Rattle.std.proofs.Common.{◌≡◌, ◌↔◌, ◌⊎◌, ℕ, ◌<◌, arith, inl, inr, Bool, IsTrue, List, Option, Some, None, refl, sym, subst, Result, Ok, Err, IfSome}
use Rattle.qbf_core.specs.Qbf.{Qbf}
use Rattle.qbf_core.specs.Truth.{IsTrueFormula}
use Rattle.qbf_gates.specs.Gates.{IsWellFormed}
use Rattle.qbf_gates.specs.Truth.{IsTrueGates}
use Rattle.trace_items.specs.Derivations.{Derivation}
use Rattle.qrp.specs.Returns.{reads_bytes}
use Rattle.qrp.specs.declared.fault.TraceFault.{TraceFault}
use Rattle.qcir.specs.Reading.{Question, read_gates}
use Rattle.qcir.specs.declared.fault.QuestionFault.{QuestionFault}
use Rattle.qrp_rules.specs.declared.rules.Rules.{Rules}
use Rattle.qrp_check.specs.Checked.{SourceCall, IsCheckedOf, IsTruthOf, truth_of}
use Rattle.qrp_check.specs.Checked as check
use Rattle.qrp_check.specs.Verdict as verdicts
use Rattle.qrp_check.specs.declared.verdict.Fault.{Fault}
use Rattle.trace_check.specs.declared.verified.Verified.{Verified}
use Rattle.gate_verify.specs.declared.fault.Unverified.{Unverified}
use Rattle.gate_verify.specs.declared.fault.Unverified.TheVariants as fault
use Rattle.gate_verify.specs.Laws.{in_clauses}
use Rattle.gate_verify.specs.Faults.{IsBeforeTrace, IsOutOfMemory, IsQuestionDevice, IsTraceDevice, StandsOnLine}
use Rattle.gate_verify.specs.Made.{AreClausesOf, AreMade}
use Rattle.gate_verify.specs.Checked.{IsChecked, IsVerdict, StopsOnceRead}
use Rattle.gate_verify.proofs.Shown.{same_truth}

-- what a check of the clauses leads to
abbrev pub of_check : Result Bool Fault → Result Bool Unverified
of_check (Ok t) = Ok t
of_check (Err e) = Err (fault.Proof e)

-- a truth that a verdict has is that of the formula
true_clauses : (rules : Rules) (f : Qbf) (trace : Option (Result Derivation (TraceFault × ℕ))) (v : Verified)
    → verdicts.IsVerdict rules (Ok f) trace (Ok v) → IsTrue v.truth ↔ IsTrueFormula f
true_clauses rules f None v h = h.1
true_clauses rules f (Some (Err e)) v h = absurd (cc h)
true_clauses rules f (Some (Ok d)) v (proves, lists, claim, truth) = truth

true_gates : (q : Question) (t : Bool) → IsWellFormed q.formula → IsTrue t ↔ IsTrueFormula (in_clauses q.formula) → IsTrue t ↔ IsTrueGates q.formula
true_gates q t sound truth =
    let same = same_truth q.formula sound in ((λ is. same.1 (truth.0 is)), (λ is. truth.1 (same.0 is)))

-- the verdict of a check of these clauses
verdict_on : (rules : Rules) (q : Question) (trace : Option (List ℕ)) (v : Result Verified Fault) → IsWellFormed q.formula
    → verdicts.IsVerdictOf rules (in_clauses q.formula) trace v
    → IsVerdict rules (Ok q) (reads_bytes trace) (of_check (truth_of v))
    ⊎ (IsOutOfMemory (of_check (truth_of v)) ⊎ (IsQuestionDevice (of_check (truth_of v)) ⊎ IsTraceDevice (of_check (truth_of v))))
verdict_on rules q trace (Ok v) sound (formed, inl h) =
    inl (true_gates q v.truth sound (true_clauses rules (in_clauses q.formula) (reads_bytes trace) v h), (Ok v, h, refl))
verdict_on rules q trace (Ok v) sound (formed, inr (inl h)) = absurd h
verdict_on rules q trace (Ok v) sound (formed, inr (inr h)) = absurd h
verdict_on rules q trace (Err e) sound (formed, inl h) = inl (Err e, h, refl)
verdict_on rules q trace (Err e) sound (formed, inr (inl h)) = inr (inl h)
verdict_on rules q trace (Err e) sound (formed, inr (inr h)) = inr (inr (inr h))

-- the formula of gates that was read, if its clauses were made
record Read (read : Result Question (QuestionFault × ℕ)) (f : Qbf) : Type 0 where
  pub q : Question
  pub is : read ≡ Ok q
  pub sound : IsWellFormed q.formula
  pub clauses : f ≡ in_clauses q.formula

read_of : (read : Result Question (QuestionFault × ℕ)) (f : Qbf)
    → AreClausesOf read (Ok f) ⊎ (IsOutOfMemory {V = Qbf} (Ok f) ⊎ IsQuestionDevice {V = Qbf} (Ok f)) → Read read f
read_of (Err e) f (inl h) = absurd (cc h)
read_of (Ok q) f (inl (sound, is)) = record { q = q; is = refl; sound = sound; clauses = is }
read_of read f (inr (inl h)) = absurd h
read_of read f (inr (inr h)) = absurd h

-- ---- the result

module _ (rules : Rules) (question trace : SourceCall) where
  never : (v : Result Verified Fault) → IsQuestionDevice (of_check (truth_of v)) → ⊥
  never (Ok v) is = is
  never (Err e) is = is

  not_early : (v : Result Verified Fault) → IsBeforeTrace (of_check (truth_of v)) → ⊥
  not_early (Ok v) is = is
  not_early (Err e) is = is

  trace_device : (v : Result Verified Fault) → verdicts.IsTraceDevice v ↔ (trace.before < trace.after)
      → IsTraceDevice (of_check (truth_of v)) ↔ (trace.before < trace.after)
  trace_device (Ok v) both = both
  trace_device (Err e) both = both

  pub checked_of : (f : Qbf) (v : Result Verified Fault) → AreMade question (Ok f) → IsCheckedOf rules f trace v
      → IsChecked rules question trace (of_check (truth_of v))
  checked_of f v made of =
      let w = read_of made.read f made.made in
      let verdict = subst (λ (g : Qbf). verdicts.IsVerdictOf rules g trace.bytes v) w.clauses of.verdict in record {
        read = Ok w.q;
        reads = subst (λ (r : Result Question (QuestionFault × ℕ)). IfSome question.bytes (λ bytes. r ≡ read_gates bytes)) w.is made.reads;
        verdict = verdict_on rules w.q trace.bytes v w.sound verdict;
        question_failed = λ small. ((λ is. absurd (never v is)), (λ less. absurd (let kept = made.works in omega (arith, less, kept))));
        trace_failed = λ small. trace_device v (of.failed small);
        lines = by v of.lines;
        not_pulled = λ is. absurd (not_early v is);
      }
    where
      by : (v : Result Verified Fault) → IfErr v verdicts.StandsOnLine → IfErr (of_check (truth_of v)) StandsOnLine
      by (Ok v) on = tt
      by (Err e) on = on

  pub refused_of : (e : Unverified) → AreMade question (Err e) → trace.unpulled → trace.after ≡ trace.before
      → IsChecked rules question trace (Err e)
  refused_of e made unpulled kept = record {
    read = made.read;
    reads = made.reads;
    verdict = verdict made.read e made.early made.made;
    question_failed = λ small. device e (made.failed small);
    trace_failed = λ small. ((λ is. absurd (early e made.early is)), (λ less. absurd (omega (arith, less, kept))));
    lines = made.lines;
    not_pulled = λ is. unpulled;
  }
    where
      early : (e : Unverified) → IsOk {T = Qbf} (Err e) ⊎ IsBeforeTrace {V = Qbf} (Err e) → IsTraceDevice {V = Bool} (Err e) → ⊥
      early (fault.Question g line) is device = device
      early fault.TooLong is device = device
      early (fault.Proof g) (inl is) device = absurd (cc is)
      early (fault.Proof g) (inr is) device = is

      device : (e : Unverified) → IsQuestionDevice {V = Qbf} (Err e) ↔ (question.before < question.after)
          → IsQuestionDevice {V = Bool} (Err e) ↔ (question.before < question.after)
      device (fault.Question g line) both = both
      device fault.TooLong both = both
      device (fault.Proof g) both = both

      verdict : (read : Result Question (QuestionFault × ℕ)) (e : Unverified) → IsOk {T = Qbf} (Err e) ⊎ IsBeforeTrace {V = Qbf} (Err e)
          → AreClausesOf read (Err e) ⊎ (IsOutOfMemory {V = Qbf} (Err e) ⊎ IsQuestionDevice {V = Qbf} (Err e))
          → IsVerdict rules read (reads_bytes trace.bytes) (Err e)
          ⊎ (IsOutOfMemory {V = Bool} (Err e) ⊎ (IsQuestionDevice {V = Bool} (Err e) ⊎ IsTraceDevice {V = Bool} (Err e)))
      verdict (Err g) e before (inl is) = inl (cc is)
      verdict (Ok q) (fault.Question g line) before (inl h) = absurd h
      verdict (Ok q) fault.TooLong before (inl h) = inl h
      verdict (Ok q) (fault.Proof g) before (inl h) = absurd h
      verdict read (fault.Question g line) before (inr (inl h)) = inr (inl h)
      verdict read (fault.Question g line) before (inr (inr h)) = inr (inr (inl h))
      verdict read fault.TooLong before (inr (inl h)) = absurd h
      verdict read fault.TooLong before (inr (inr h)) = absurd h
      verdict read (fault.Proof g) before (inr (inl h)) = inr (inl h)
      verdict read (fault.Proof g) before (inr (inr h)) = absurd h

pub stops_of : (before after : Option (List ℕ)) (v : Result Verified Fault) → check.StopsOnceRead before after v
    → StopsOnceRead before after (of_check (truth_of v))
stops_of before after (Ok v) stops is = stops is
stops_of before after (Err e) stops is = stops is
