-- The result of the check of a formula and a trace at their sources, and what it leaves of these.
use Rattle.std.specs.Prelude.{◌≡◌, ◌↔◌, ℕ, ◌-◌, ◌^◌, ◌<◌, Bool, List, Option, length, IfSome, IfOk, IfErr, OnOk, Result, Ok, Err}
use Rattle.std.specs.List.{AllByRecursion}
use Rattle.qbf_core.specs.Qbf.{Qbf}
use Rattle.qbf_text.specs.declared.source.Source as source
use Rattle.qbf_text.specs.Stopping.{IfKnown}
use Rattle.qrp.specs.Returns.{reads_bytes}
use Rattle.trace_items.specs.Derivations.{Derivation, IsWellFormed}
use Rattle.qrp_rules.specs.declared.rules.Rules.{Rules}
use Rattle.trace_check.specs.declared.verified.Verified.{Verified}
use Rattle.qrp_check.specs.declared.verdict.Fault.{Fault}
use Rattle.qrp_check.specs.Verdict.{IsVerdictOf, IsVerdictUnless, IsFormulaDevice, IsTraceDevice, IsFormulaFault, StandsOnLine}
use Rattle.qrp_check.specs.Verdict.{WasRead, StopsAfterTrace}

-- a source before and after a call: its bytes and those that are left, if they are known, its count of failures before and after, and the
-- statement that it was not pulled
pub record SourceCall : Type 1 where
  pub bytes : Option (List ℕ)
  pub rest : Option (List ℕ)
  pub before : ℕ
  pub after : ℕ
  pub unpulled : Type 0

-- the call of a source that went from `old` to `new`
abbrev pub call_of : {S : Type 0} → source.Ghosts S → S → S → SourceCall
call_of s old new =
    record { bytes = s.remaining old; rest = s.remaining new; before = s.failures old; after = s.failures new; unpulled = new ≡ old }

-- the verdict alone, of a trace and its verdict
abbrev pub verdict_of : Result (Derivation × Verified) Fault → Result Verified Fault
verdict_of (Ok r) = Ok r.1
verdict_of (Err e) = Err e

-- the truth that a verdict has, or its fault
abbrev pub truth_of : Result Verified Fault → Result Bool Fault
truth_of (Ok v) = Ok v.truth
truth_of (Err e) = Err e

-- the result is the truth of a verdict of which this holds, or its fault
abbrev pub IsTruthOf : (Result Verified Fault → Type 0) → Result Bool Fault → Type 0
IsTruthOf Holds result = (verdict : Result Verified Fault) × Holds verdict × (result ≡ truth_of verdict)

-- a trace that was read is well formed, and what these bytes read as, if they are known
abbrev pub WasReadFrom : Option (List ℕ) → Derivation → Type 0
WasReadFrom bytes d = IsWellFormed d × IfSome (reads_bytes bytes) (λ read. read ≡ Ok d)

-- once the trace was read, nothing was taken past its result word but what is held
abbrev pub StopsOnceRead : {V : Type 0} → Option (List ℕ) → Option (List ℕ) → Result V Fault → Type 0
StopsOnceRead before after result = WasRead result → IfKnown StopsAfterTrace before after

-- A trace that is returned with its verdict, if its source had these bytes still to give before and after. It was read from there, and each
-- position of its core is that of one of its steps. Once it was read, nothing was taken past its result word but what is held.
pub record IsOfSource (before after : Option (List ℕ)) (result : Result (Derivation × Verified) Fault) : Type 0 where
  pub reads : IfOk result (λ r. WasReadFrom before r.0)
  pub within : IfOk result (λ r. AllByRecursion (λ i. i < length r.0.steps) r.1.core.items)
  pub stops : StopsOnceRead before after (verdict_of result)

-- The result of the check of two texts by these rules: the verdict on their bytes, or that a source failed, exactly if it did, or that an
-- allocation failed. The latter two are on line 0. With a fault of the formula the trace was not pulled.
pub record IsChecked (rules : Rules) (formula trace : SourceCall) (result : Result Verified Fault) : Type 0 where
  pub verdict : IsVerdictUnless rules formula.bytes trace.bytes result
  pub formula_failed : formula.before < 2 ^ 64 - 1 → IsFormulaDevice result ↔ (formula.before < formula.after)
  pub trace_failed : trace.before < 2 ^ 64 - 1 → IsTraceDevice result ↔ (trace.before < trace.after)
  pub lines : IfErr result StandsOnLine
  pub not_pulled : IsFormulaFault result → trace.unpulled

-- the result of the check of a trace against a formula that was read, and the count of failures of its source
pub record IsCheckedOf (rules : Rules) (f : Qbf) (trace : SourceCall) (result : Result Verified Fault) : Type 0 where
  pub verdict : IsVerdictOf rules f trace.bytes result
  pub failed : trace.before < 2 ^ 64 - 1 → IsTraceDevice result ↔ (trace.before < trace.after)
  pub lines : IfErr result StandsOnLine
  pub works : OnOk result (trace.after ≡ trace.before)
