-- A line has room: it is shorter than what is kept in place.
use Rattle.std.proofs.Common.{rules, ◌≡◌, ℕ, ◌+◌, ◌^◌, ◌<◌, ◌≤◌, Bool, List, [], ◌++◌, Option, Some, length, arith, if◌then◌else◌, IfErr}
use Rattle.std.proofs.Common.{Result, Ok, Err, decimal, refl}
use Rattle.std.proofs.lemmas.Grind.{common_steps}
use Rattle.std.proofs.lemmas.Fmt.{length-decimal-le}
use Rattle.qbf_text.specs.Written.{IsPut}
use Rattle.qcir.specs.declared.fault.QuestionFault.{QuestionFault}
use Rattle.qrp_report.specs.declared.refusal.Refusal.{Refusal}
use Rattle.qrp_report.specs.Lines.{numbers_line, text_line, check_line, refusal_line, verdict_line}
use Rattle.qrp_report.specs.OfFaults.{IsOfFault}
use Rattle.qrp_report.specs.Refusals.{refusal_of}
use Rattle.gate_verify.specs.declared.fault.Unverified.{Unverified}
use Rattle.gate_verify.specs.declared.fault.Unverified.TheVariants as fault
use Rattle.gate_report.specs.declared.refusal.GateRefusal.{GateRefusal}
use Rattle.gate_report.specs.Lines.{gate_line}
use Rattle.gate_report.specs.Refusals.{question_number, question_refusal, too_long}
use Rattle.qrp_bytes.specs.Encoding.{NamesItsVariable, checked_encoding, checked_line}
use Rattle.qrp_report.proofs.FaultsByNumbers.{HasNumbers, has_numbers}

-- a line that is chosen is short, if each of them is
chosen : (b : Bool) (x y : List ℕ) → length x < 47 → length y < 47 → length (if b then x else y) < 47
chosen b x y short_x short_y = search rules

digits : (n : ℕ) → n < 2 ^ 64 → length (decimal n) ≤ 20
digits n small = length-decimal-le 20 n (omega arith) (omega (arith, small)) small

few_digits : (n : ℕ) → n ≤ 13 → length (decimal n) ≤ 2
few_digits n low = length-decimal-le 2 n (omega arith) (omega (arith, low)) (omega (arith, low))

one_digit : (n : ℕ) → n ≤ 9 → length (decimal n) ≤ 1
one_digit n low = length-decimal-le 1 n (omega arith) (omega (arith, low)) (omega (arith, low))

numbers_short : (first second : List ℕ) (a b : ℕ) → length first + length (decimal a) + length second + length (decimal b) < 46
    → length (numbers_line first a second b) < 47
numbers_short first second a b short = grind (arith, common_steps, short)

text_short : (device beginning : List ℕ) (r : Refusal) → length device < 47 → length beginning ≤ 17 → r.number ≤ 9 → r.position < 2 ^ 64
    → length (text_line device beginning r) < 47
text_short device beginning r short_device short low small = grind (arith, common_steps, chosen, numbers_short, one_digit, digits)

check_short : (r : Refusal) → r.number ≤ 9 → r.rule ≤ 12 → r.position < 2 ^ 64 → length (check_line r) < 47
check_short r low rule small = grind (arith, common_steps, digits, chosen, numbers_short, few_digits, one_digit)

by_numbers : (r : Refusal) → r.number ≤ 9 → r.rule ≤ 12 → r.position < 2 ^ 64 → length (refusal_line r) < 47
by_numbers r low rule small = search (rules, chosen, text_short, check_short)

numbers_low : (r : Refusal) → HasNumbers r → (r.number ≤ 9) × (r.rule ≤ 12)
numbers_low r h = search rules

-- by the position that was encoded
refusal_short : (r : Refusal) → IsOfFault r → r.position < 2 ^ 64 → length (refusal_line r) < 47
refusal_short r of small = let low = numbers_low r (has_numbers r of) in by_numbers r low.0 low.1 small

verdict_short : (b : Bool) → length (verdict_line b) < 47
verdict_short b = search rules

gates_short : (r : GateRefusal) → r.number ≤ 13 → r.line < 2 ^ 64 → length (gate_line r) < 47
gates_short r low small = grind (arith, common_steps, chosen, numbers_short, few_digits, digits)

question_low : (e : QuestionFault) → question_number e ≤ 13
question_low e = search rules

-- by the position that was encoded
pub checked_short : (outcome : Result Bool Unverified) → IfErr outcome NamesItsVariable → (checked_encoding outcome).position < 2 ^ 64
    → length (checked_line outcome) < 47
checked_short (Ok truth) names small = verdict_short truth
checked_short (Err (fault.Question e n)) names small = gates_short (question_refusal e n) (question_low e) small
checked_short (Err fault.TooLong) names small = gates_short too_long (omega arith) small
checked_short (Err (fault.Proof e)) names small = refusal_short (refusal_of e) (e, names, refl) small

full_is_long : (text sent unsent : List ℕ) → text ≡ sent ++ unsent → length sent ≡ 47 → length text < 47 → ⊥
full_is_long text sent unsent parts full small = grind (arith, common_steps)

-- A text that is shorter than the room was kept whole, since a sink that failed is full.
pub kept_whole : {S T E : Type 0} (written : S → Option (List ℕ)) (failures : S → ℕ) (failed_last : S → Type 0) (old new : S)
    (text : List ℕ) (result : Result T E) (bytes : List ℕ)
    → IsPut written failures failed_last old new text result → written old ≡ Some [] → failures old ≡ 0 → written new ≡ Some bytes
    → (0 < failures new → length bytes ≡ 47) → length text < 47 → written new ≡ Some text
kept_whole written failures failed_last old new text result bytes put none never is full small = grind (arith, common_steps, full_is_long)
