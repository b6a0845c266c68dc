-- The fault of a refusal of a formula of gates, by its number.
use Rattle.std.proofs.Common.{rules, ◌≡◌, ◌⊎◌, ℕ, zero, suc, ◌≤◌, inl, inr, refl, arith, sym, subst}
use Rattle.qcir.specs.declared.fault.QuestionFault.{QuestionFault}
use Rattle.qcir.specs.declared.fault.QuestionFault.TheVariants.{Q1, Q2, Q3, Q4, Q5, Q6, Q7, Q8, Q9, Q10, Q11, Q12}
use Rattle.gate_report.specs.declared.refusal.GateRefusal.{GateRefusal}
use Rattle.gate_report.specs.Refusals.{IsOfGates, question_number, question_refusal}

-- by its number and its line, a refusal is that of a fault: Q1 to Q12, or 13 on no line
abbrev pub HasNumber : GateRefusal → Type 0
HasNumber r = ((1 ≤ r.number) × (r.number ≤ 12)) ⊎ ((r.number ≡ 13) × (r.line ≡ 0))

question_of : (n : ℕ) → 1 ≤ n → n ≤ 12 → (e : QuestionFault) × (question_number e ≡ n)
question_of (suc zero) low high = (Q1, refl)
question_of (suc (suc zero)) low high = (Q2, refl)
question_of (suc (suc (suc zero))) low high = (Q3, refl)
question_of (suc (suc (suc (suc zero)))) low high = (Q4, refl)
question_of (suc (suc (suc (suc (suc zero))))) low high = (Q5, refl)
question_of (suc (suc (suc (suc (suc (suc zero)))))) low high = (Q6, refl)
question_of (suc (suc (suc (suc (suc (suc (suc zero))))))) low high = (Q7, refl)
question_of (suc (suc (suc (suc (suc (suc (suc (suc zero)))))))) low high = (Q8, refl)
question_of (suc (suc (suc (suc (suc (suc (suc (suc (suc zero))))))))) low high = (Q9, refl)
question_of (suc (suc (suc (suc (suc (suc (suc (suc (suc (suc zero)))))))))) low high = (Q10, refl)
question_of (suc (suc (suc (suc (suc (suc (suc (suc (suc (suc (suc zero))))))))))) low high = (Q11, refl)
question_of (suc (suc (suc (suc (suc (suc (suc (suc (suc (suc (suc (suc zero)))))))))))) low high = (Q12, refl)
question_of n low high = absurd (omega (arith, low, high))

pub fault_of : (r : GateRefusal) → HasNumber r → IsOfGates r
fault_of r (inl (low, high)) = let w = question_of r.number low high in inl (w.0, rw w.1 refl)
fault_of r (inr (is, none)) = inr (rw (is, none) refl)

numbers_of : (e : QuestionFault) (n : ℕ) → HasNumber (question_refusal e n)
numbers_of e n = search rules

pub has_number : (r : GateRefusal) → IsOfGates r → HasNumber r
has_number r (inl (e, is)) = subst HasNumber (sym is) (numbers_of e r.line)
has_number r (inr is) = subst HasNumber (sym is) (inr (refl, refl))
