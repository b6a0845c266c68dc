-- The struct that a caller in C gets for a result.
use Rattle.std.specs.Prelude.{◌≡◌, ◌⊎◌, ℕ, Bool, if◌then◌else◌, List, ◌∷◌, [], IfErr, Result, Ok, Err}
use Rattle.trace_check.specs.declared.verified.Verified.{Verified}
use Rattle.qrp_check.specs.declared.verdict.Fault.{Fault}
use Rattle.qrp_report.specs.declared.refusal.Refusal.{Refusal}
use Rattle.qrp_report.specs.Lines.{fault_line, verdict_line}
use Rattle.qrp_report.specs.OfFaults.{NamesVariable}
use Rattle.qrp_report.specs.Refusals.{refusal_of, status}
use Rattle.gate_verify.specs.declared.fault.Unverified.{Unverified}
use Rattle.gate_verify.specs.declared.fault.Unverified.TheVariants as unverified
use Rattle.gate_report.specs.declared.refusal.GateRefusal.{GateRefusal}
use Rattle.gate_report.specs.Lines.{unverified_line}
use Rattle.gate_report.specs.Refusals.{gate_status, question_refusal, too_long}
use Rattle.qrp_bytes.specs.declared.verdict.QrpVerdict.{QrpVerdict}

-- the struct for a refusal
abbrev pub encoded_refusal : Refusal → QrpVerdict
encoded_refusal r =
    record {
      position = r.position;
      status = status r;
      truth = 0;
      letter = r.letter;
      number = r.number;
      rule = r.rule;
      reserved = 0 ∷ 0 ∷ 0 ∷ [];
    }

-- the struct for a fault
abbrev pub encoded_fault : Fault → QrpVerdict
encoded_fault e = encoded_refusal (refusal_of e)

-- the struct for a formula that was verified to have this truth; the letter V, 86
abbrev pub encoded_truth : Bool → QrpVerdict
encoded_truth b = record { position = 0; status = 0; truth = if b then 1 else 0; letter = 86; number = 0; rule = 0; reserved = 0 ∷ 0 ∷ 0 ∷ [] }

-- the struct for a result
abbrev pub encoding : Result Verified Fault → QrpVerdict
encoding (Ok v) = encoded_truth v.truth
encoding (Err e) = encoded_fault e

-- this is the struct for the result
abbrev pub IsEncoded : Result Verified Fault → QrpVerdict → Type 0
IsEncoded outcome out = (out ≡ encoding outcome) × IfErr outcome NamesVariable

-- the line of a result, as the program prints it
abbrev pub result_line : Result Verified Fault → List ℕ
result_line (Ok v) = verdict_line v.truth
result_line (Err e) = fault_line e

-- ---- of a formula of gates

-- the struct for a refusal of a formula of gates; the letter Q, 81
abbrev pub encoded_gates : GateRefusal → QrpVerdict
encoded_gates r =
    record {
      position = r.line;
      status = gate_status r;
      truth = 0;
      letter = 81;
      number = r.number;
      rule = 0;
      reserved = 0 ∷ 0 ∷ 0 ∷ [];
    }

-- the struct for why no formula of gates was verified
abbrev pub encoded_unverified : Unverified → QrpVerdict
encoded_unverified (unverified.Question e n) = encoded_gates (question_refusal e n)
encoded_unverified unverified.TooLong = encoded_gates too_long
encoded_unverified (unverified.Proof e) = encoded_fault e

-- if its fault names a variable, the number of that is in range
abbrev pub NamesItsVariable : Unverified → Type 0
NamesItsVariable (unverified.Question e n) = Unit {0}
NamesItsVariable unverified.TooLong = Unit {0}
NamesItsVariable (unverified.Proof e) = NamesVariable e

-- the struct for the result of the check of a formula of gates
abbrev pub checked_encoding : Result Bool Unverified → QrpVerdict
checked_encoding (Ok truth) = encoded_truth truth
checked_encoding (Err e) = encoded_unverified e

-- this is the struct for the result
abbrev pub IsGatesEncoded : Result Bool Unverified → QrpVerdict → Type 0
IsGatesEncoded outcome out = (out ≡ checked_encoding outcome) × IfErr outcome NamesItsVariable

-- the line of the result, as the program prints it
abbrev pub checked_line : Result Bool Unverified → List ℕ
checked_line (Ok truth) = verdict_line truth
checked_line (Err e) = unverified_line e

-- ---- of any result

-- the struct is that of a fault: of a formula of gates, of a trace or of its check; one of a formula in clauses is among these
abbrev pub EncodesFault : QrpVerdict → Type 0
EncodesFault out = (e : Unverified) × NamesItsVariable e × (out ≡ encoded_unverified e)

-- the struct is that of a truth or of a fault
abbrev pub EncodesSome : QrpVerdict → Type 0
EncodesSome out = ((b : Bool) × (out ≡ encoded_truth b)) ⊎ EncodesFault out
