-- The result of the check of a formula of gates and a trace at their sources.
use Rattle.std.specs.Prelude.{◌≡◌, ◌↔◌, ◌⊎◌, ℕ, ◌<◌, ◌-◌, ◌^◌, Bool, IsTrue, List, Option, IfErr, IfSome, Result, Ok, Err}
use Rattle.qbf_gates.specs.Truth.{IsTrueGates}
use Rattle.qbf_text.specs.Stopping.{IfKnown}
use Rattle.trace_items.specs.Derivations.{Derivation}
use Rattle.qrp.specs.declared.fault.TraceFault.{TraceFault}
use Rattle.qrp.specs.Returns.{reads_bytes}
use Rattle.qcir.specs.Reading.{Question, read_gates}
use Rattle.qcir.specs.declared.fault.QuestionFault.{QuestionFault}
use Rattle.qrp_rules.specs.declared.rules.Rules.{Rules}
use Rattle.qrp_check.specs.Checked.{SourceCall, IsTruthOf}
use Rattle.qrp_check.specs.Verdict.{StopsAfterTrace}
use Rattle.qrp_check.specs.Verdict as check
use Rattle.gate_verify.specs.declared.fault.Unverified.{Unverified}
use Rattle.gate_verify.specs.declared.fault.Unverified.TheVariants as fault
use Rattle.gate_verify.specs.Laws.{in_clauses}
use Rattle.gate_verify.specs.Faults.{IsBeforeTrace, IsOutOfMemory, IsQuestionDevice, IsTraceDevice, StandsOnLine, WasRead}
use Rattle.gate_verify.specs.Made.{IsTooLong}

-- The result is the verdict by these rules on what the two texts read as: the fault of the formula of gates comes first, then that there are
-- too many clauses, and then what the check of the clauses finds. A truth is that of the formula of gates.
abbrev pub IsVerdict : Rules → Result Question (QuestionFault × ℕ) → Option (Result Derivation (TraceFault × ℕ)) → Result Bool Unverified → Type 0
IsVerdict rules (Err e) trace result = result ≡ Err (fault.Question e.0 e.1)
IsVerdict rules (Ok q) trace (Ok truth) =
    (IsTrue truth ↔ IsTrueGates q.formula) × IsTruthOf (check.IsVerdict rules (Ok (in_clauses q.formula)) trace) (Ok truth)
IsVerdict rules (Ok q) trace (Err (fault.Question e line)) = ⊥
IsVerdict rules (Ok q) trace (Err fault.TooLong) = IsTooLong q
IsVerdict rules (Ok q) trace (Err (fault.Proof e)) = IsTruthOf (check.IsVerdict rules (Ok (in_clauses q.formula)) trace) (Err e)

-- The result of the check of two texts by these rules: the verdict on their bytes, or that a source failed, exactly if it did, or that an
-- allocation failed. The latter two are on line 0. If the clauses are not made, the trace is not pulled.
pub record IsChecked (rules : Rules) (question trace : SourceCall) (result : Result Bool Unverified) : Type 0 where
  pub read : Result Question (QuestionFault × ℕ)
  pub reads : IfSome question.bytes (λ bytes. read ≡ read_gates bytes)
  pub verdict : IsVerdict rules read (reads_bytes trace.bytes) result
      ⊎ (IsOutOfMemory result ⊎ (IsQuestionDevice result ⊎ IsTraceDevice result))
  pub question_failed : question.before < 2 ^ 64 - 1 → IsQuestionDevice result ↔ (question.before < question.after)
  pub trace_failed : trace.before < 2 ^ 64 - 1 → IsTraceDevice result ↔ (trace.before < trace.after)
  pub lines : IfErr result StandsOnLine
  pub not_pulled : IsBeforeTrace result → trace.unpulled

-- once the trace was read, nothing was taken past its result word but what is held
abbrev pub StopsOnceRead : Option (List ℕ) → Option (List ℕ) → Result Bool Unverified → Type 0
StopsOnceRead before after result = WasRead result → IfKnown StopsAfterTrace before after
