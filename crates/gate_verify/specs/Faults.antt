-- Which part of a check a fault is of.
use Rattle.std.specs.Prelude.{◌≡◌, ◌⊎◌, ℕ, Result, Ok, Err}
use Rattle.qcir.specs.declared.fault.QuestionFault.TheVariants.{Q1, Q11}
use Rattle.qrp_check.specs.declared.verdict.Fault.{Fault}
use Rattle.trace_check.specs.declared.verified.Verified.{Verified}
use Rattle.qrp_check.specs.Verdict as check
use Rattle.gate_verify.specs.declared.fault.Unverified.{Unverified}
use Rattle.gate_verify.specs.declared.fault.Unverified.TheVariants as fault

-- the result of a check that found this fault
abbrev pub refused : Fault → Result Verified Fault
refused e = Err e

-- an allocation or a device failed
abbrev pub HasFailed : {V : Type 0} → Result V Unverified → Type 0
HasFailed (Err (fault.Question e line)) = (e ≡ Q1) ⊎ (e ≡ Q11)
HasFailed (Err (fault.Proof e)) = check.IsOutOfMemory (Err e) ⊎ check.IsTraceDevice (Err e)
HasFailed result = ⊥

-- the result is that an allocation failed
abbrev pub IsOutOfMemory : {V : Type 0} → Result V Unverified → Type 0
IsOutOfMemory (Ok v) = ⊥
IsOutOfMemory (Err (fault.Question e line)) = e ≡ Q11
IsOutOfMemory (Err fault.TooLong) = ⊥
IsOutOfMemory (Err (fault.Proof e)) = check.IsOutOfMemory (refused e)

-- the result is that the source of the formula of gates failed
abbrev pub IsQuestionDevice : {V : Type 0} → Result V Unverified → Type 0
IsQuestionDevice (Ok v) = ⊥
IsQuestionDevice (Err (fault.Question e line)) = e ≡ Q1
IsQuestionDevice (Err fault.TooLong) = ⊥
IsQuestionDevice (Err (fault.Proof e)) = ⊥

-- the result is that the trace's source failed
abbrev pub IsTraceDevice : {V : Type 0} → Result V Unverified → Type 0
IsTraceDevice (Ok v) = ⊥
IsTraceDevice (Err (fault.Question e line)) = ⊥
IsTraceDevice (Err fault.TooLong) = ⊥
IsTraceDevice (Err (fault.Proof e)) = check.IsTraceDevice (refused e)

-- the fault was found before the trace was looked at
abbrev pub IsBeforeTrace : {V : Type 0} → Result V Unverified → Type 0
IsBeforeTrace (Ok v) = ⊥
IsBeforeTrace (Err (fault.Question e line)) = Unit {0}
IsBeforeTrace (Err fault.TooLong) = Unit {0}
IsBeforeTrace (Err (fault.Proof e)) = ⊥

-- the trace was read: it proves its result, or the fault is one of the check
abbrev pub WasRead : {V : Type 0} → Result V Unverified → Type 0
WasRead (Ok v) = Unit {0}
WasRead (Err (fault.Question e line)) = ⊥
WasRead (Err fault.TooLong) = ⊥
WasRead (Err (fault.Proof e)) = check.WasRead (refused e)

-- the line of a failed source and of a failed allocation is 0
abbrev pub StandsOnLine : Unverified → Type 0
StandsOnLine (fault.Question e line) = (e ≡ Q1 → line ≡ 0) × (e ≡ Q11 → line ≡ 0)
StandsOnLine fault.TooLong = Unit {0}
StandsOnLine (fault.Proof e) = check.StandsOnLine e
