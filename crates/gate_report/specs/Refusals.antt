-- Refusals of a formula of gates as data: the number in the name of a fault, and its line; and the statuses.
use Rattle.std.specs.Prelude.{◌≡◌, ◌⊎◌, ℕ, nat_eq, if◌then◌else◌}
use Rattle.qcir.specs.declared.fault.QuestionFault.{QuestionFault}
use Rattle.qcir.specs.declared.fault.QuestionFault.TheVariants.{Q1, Q2, Q3, Q4, Q5, Q6, Q7, Q8, Q9, Q10, Q11, Q12}
use Rattle.qrp_report.specs.Refusals.{fault_status}
use Rattle.gate_verify.specs.declared.fault.Unverified.{Unverified}
use Rattle.gate_verify.specs.declared.fault.Unverified.TheVariants as fault
use Rattle.gate_report.specs.declared.refusal.GateRefusal.{GateRefusal}

-- the number in the name of a fault of a text of gates
abbrev pub question_number : QuestionFault → ℕ
question_number Q1 = 1
question_number Q2 = 2
question_number Q3 = 3
question_number Q4 = 4
question_number Q5 = 5
question_number Q6 = 6
question_number Q7 = 7
question_number Q8 = 8
question_number Q9 = 9
question_number Q10 = 10
question_number Q11 = 11
question_number Q12 = 12

-- the refusal for a fault of a text of gates, on this line
abbrev pub question_refusal : QuestionFault → ℕ → GateRefusal
question_refusal e n = record { number = question_number e; line = n }

-- the refusal if there are more clauses than QDIMACS can count
abbrev pub too_long : GateRefusal
too_long = record { number = 13; line = 0 }

-- the refusal is that of a fault
abbrev pub IsOfGates : GateRefusal → Type 0
IsOfGates r = ((e : QuestionFault) × (r ≡ question_refusal e r.line)) ⊎ (r ≡ too_long)

-- the status of a refusal; 2: the text is refused; 3: its source failed; 4: an allocation failed, or there are too many clauses
abbrev pub gate_status : GateRefusal → ℕ
gate_status r = if nat_eq r.number 1 then 3 else (if nat_eq r.number 11 then 4 else (if nat_eq r.number 13 then 4 else 2))

-- the status if no formula of gates was verified
abbrev pub unverified_status : Unverified → ℕ
unverified_status (fault.Question e n) = gate_status (question_refusal e n)
unverified_status fault.TooLong = gate_status too_long
unverified_status (fault.Proof e) = fault_status e
