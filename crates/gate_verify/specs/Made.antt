-- The clauses of a formula of gates, made of its text or of a source.
use Rattle.std.specs.Prelude.{◌≡◌, ◌↔◌, ◌⊎◌, ℕ, ◌<◌, ◌-◌, ◌^◌, length, IfErr, IfSome, IsOk, OnOk, Result, Ok, Err}
use Rattle.qbf_core.specs.Qbf.{Qbf}
use Rattle.qbf_gates.specs.Gates.{IsWellFormed}
use Rattle.qcir.specs.Reading.{Question, read_gates}
use Rattle.qcir.specs.declared.fault.QuestionFault.{QuestionFault}
use Rattle.qrp_check.specs.Checked.{SourceCall}
use Rattle.gate_verify.specs.declared.fault.Unverified.{Unverified}
use Rattle.gate_verify.specs.declared.fault.Unverified.TheVariants as fault
use Rattle.gate_verify.specs.Laws.{in_clauses}
use Rattle.gate_verify.specs.Faults.{IsBeforeTrace, IsOutOfMemory, IsQuestionDevice, StandsOnLine}

-- there are more clauses than QDIMACS can count
abbrev pub IsTooLong : Question → Type 0
IsTooLong q = 2147483647 < length (in_clauses q.formula).clauses

-- the result is the clauses of what was read, which is well formed, or its fault
abbrev pub AreClausesOf : Result Question (QuestionFault × ℕ) → Result Qbf Unverified → Type 0
AreClausesOf (Err e) result = result ≡ Err (fault.Question e.0 e.1)
AreClausesOf (Ok q) (Ok f) = IsWellFormed q.formula × (f ≡ in_clauses q.formula)
AreClausesOf (Ok q) (Err fault.TooLong) = IsTooLong q
AreClausesOf (Ok q) (Err (fault.Question e line)) = ⊥
AreClausesOf (Ok q) (Err (fault.Proof e)) = ⊥

-- The result of making the clauses of a text: those of what it reads as, or that an allocation failed.
pub record AreMadeOf (read : Result Question (QuestionFault × ℕ)) (result : Result Qbf Unverified) : Type 0 where
  pub made : AreClausesOf read result ⊎ IsOutOfMemory result
  pub lines : IfErr result StandsOnLine
  pub works : IsQuestionDevice result → ⊥
  pub early : IsOk result ⊎ IsBeforeTrace result

-- The result of making the clauses of what a source gives: those of what its bytes read as, or that it failed, exactly if it did, or that an
-- allocation failed.
pub record AreMade (question : SourceCall) (result : Result Qbf Unverified) : Type 0 where
  pub read : Result Question (QuestionFault × ℕ)
  pub reads : IfSome question.bytes (λ bytes. read ≡ read_gates bytes)
  pub made : AreClausesOf read result ⊎ (IsOutOfMemory result ⊎ IsQuestionDevice result)
  pub failed : question.before < 2 ^ 64 - 1 → IsQuestionDevice result ↔ (question.before < question.after)
  pub works : OnOk result (question.after ≡ question.before)
  pub lines : IfErr result StandsOnLine
  pub early : IsOk result ⊎ IsBeforeTrace result
