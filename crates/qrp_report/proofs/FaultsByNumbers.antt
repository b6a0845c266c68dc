-- The fault of a refusal, by its numbers.
use Rattle.std.proofs.Common.{rules, ◌≡◌, ◌∙◌, ◌⊎◌, ℕ, zero, suc, ◌+◌, ◌<◌, ◌≤◌, List, [], ◌∷◌, map, length, inl, inr, refl, arith, sym, subst}
use Rattle.std.proofs.lemmas.Bool.{cases_eq}
use Rattle.qdimacs.specs.declared.fault.FormulaFault.{FormulaFault}
use Rattle.qdimacs.specs.declared.fault.FormulaFault.TheVariants.{F1, F2, F3, F4, F5, F6, F7, F8, F9}
use Rattle.qrp.specs.declared.fault.TraceFault.{TraceFault}
use Rattle.qrp.specs.declared.fault.TraceFault.TheVariants.{P1, P2, P3, P4, P5, P6, P7, P8, P9}
use Rattle.qrp_rules.specs.declared.fault.RuleFault.{RuleFault}
use Rattle.qrp_rules.specs.declared.fault.RuleFault.TheVariants.{S1, S2, S3, S4, S5, S6, S7, S8, S9, S10, S11, S12}
use Rattle.trace_check.specs.declared.fault.CheckFault.TheVariants.{C1, C2, C3, C4, C5, C6}
use Rattle.qrp_check.specs.declared.verdict.Fault.{Fault}
use Rattle.qrp_check.specs.declared.verdict.Fault.TheVariants as fault
use Rattle.step_index.specs.Numbers.{count_from}
use Rattle.qrp_report.specs.declared.refusal.Refusal.{Refusal}
use Rattle.qrp_report.specs.OfFaults.{NamesVariable, IsOfFault}
use Rattle.qrp_report.specs.Refusals.{formula_number, trace_number, rule_number, with_parts, refusal_of}

-- by its numbers, a refusal is that of a fault of a text: F1 to F9, P1 to P9
abbrev pub IsOfText : Refusal → Type 0
IsOfText r = ((r.letter ≡ 70) ⊎ (r.letter ≡ 80)) × (1 ≤ r.number) × (r.number ≤ 9) × (r.rule ≡ 0)

-- of a variable in a set: C1 to C3
abbrev pub IsOfSet : Refusal → Type 0
IsOfSet r = (r.letter ≡ 67) × (1 ≤ r.number) × (r.number ≤ 3) × (r.rule ≡ 0) × (1 ≤ r.position) × (r.position ≤ 2147483647)

-- of a missing goal or of memory: C4, C5
abbrev pub IsOfWhole : Refusal → Type 0
IsOfWhole r = (r.letter ≡ 67) × (4 ≤ r.number) × (r.number ≤ 5) × (r.rule ≡ 0) × (r.position ≡ 0)

-- of a step: C6 with S1 to S12
abbrev pub IsOfStep : Refusal → Type 0
IsOfStep r = (r.letter ≡ 67) × (r.number ≡ 6) × (1 ≤ r.rule) × (r.rule ≤ 12)

-- the value of each number, if the numbers of all values are counted from the first
value_of : {A : Type 0} (number : A → ℕ) (all : List A) (first n : ℕ) → map number all ≡ count_from first (length all)
    → first ≤ n → n < first + length all → (e : A) × (number e ≡ n)
value_of number [] first n counted low high = absurd (omega (arith, low, high))
value_of number (e ∷ all) first n counted low high =
    let head : number e ≡ first = cc counted in
    let rest : map number all ≡ count_from (suc first) (length all) = cc counted in
    elim (cases_eq n first) [
      | inl same ↦ (e, head ∙ sym same)
      | inr other ↦ value_of number all (suc first) n rest (omega (arith, low, other)) (omega (arith, high))
    ]

formula_of : (n : ℕ) → 1 ≤ n → n ≤ 9 → (e : FormulaFault) × (formula_number e ≡ n)
formula_of n low high =
    value_of formula_number (F1 ∷ F2 ∷ F3 ∷ F4 ∷ F5 ∷ F6 ∷ F7 ∷ F8 ∷ F9 ∷ []) 1 n refl low (omega (arith, high))

trace_of : (n : ℕ) → 1 ≤ n → n ≤ 9 → (e : TraceFault) × (trace_number e ≡ n)
trace_of n low high = value_of trace_number (P1 ∷ P2 ∷ P3 ∷ P4 ∷ P5 ∷ P6 ∷ P7 ∷ P8 ∷ P9 ∷ []) 1 n refl low (omega (arith, high))

rule_of : (n : ℕ) → 1 ≤ n → n ≤ 12 → (e : RuleFault) × (rule_number e ≡ n)
rule_of n low high =
    value_of rule_number (S1 ∷ S2 ∷ S3 ∷ S4 ∷ S5 ∷ S6 ∷ S7 ∷ S8 ∷ S9 ∷ S10 ∷ S11 ∷ S12 ∷ []) 1 n refl low (omega (arith, high))

of_text : (r : Refusal) → IsOfText r → IsOfFault r
of_text r (inl is, low, high, none) = let w = formula_of r.number low high in (fault.Formula w.0 r.position, tt, rw (is, none, w.1) refl)
of_text r (inr is, low, high, none) = let w = trace_of r.number low high in (fault.Trace w.0 r.position, tt, rw (is, none, w.1) refl)

of_set : (l n s p : ℕ) → IsOfSet (with_parts l n s p) → IsOfFault (with_parts l n s p)
of_set l (suc zero) s p (is, low, high, none, least, most) = (fault.Check (C1 p), (least, most), rw (is, none) refl)
of_set l (suc (suc zero)) s p (is, low, high, none, least, most) = (fault.Check (C2 p), (least, most), rw (is, none) refl)
of_set l (suc (suc (suc zero))) s p (is, low, high, none, least, most) = (fault.Check (C3 p), (least, most), rw (is, none) refl)
of_set l n s p (is, low, high, none, least, most) = absurd (omega (arith, low, high))

of_whole : (l n s p : ℕ) → IsOfWhole (with_parts l n s p) → IsOfFault (with_parts l n s p)
of_whole l (suc (suc (suc (suc zero)))) s p (is, low, high, none, no_place) = (fault.Check C4, tt, rw (is, none, no_place) refl)
of_whole l (suc (suc (suc (suc (suc zero))))) s p (is, low, high, none, no_place) = (fault.Check C5, tt, rw (is, none, no_place) refl)
of_whole l n s p (is, low, high, none, no_place) = absurd (omega (arith, low, high))

of_step : (r : Refusal) → IsOfStep r → IsOfFault r
of_step r (is, six, low, high) = let w = rule_of r.rule low high in (fault.Check (C6 r.position w.0), tt, rw (is, six, w.1) refl)

-- of any fault
abbrev pub HasNumbers : Refusal → Type 0
HasNumbers r = IsOfText r ⊎ (IsOfSet r ⊎ (IsOfWhole r ⊎ IsOfStep r))

pub fault_of : (r : Refusal) → HasNumbers r → IsOfFault r
fault_of r (inl is) = of_text r is
fault_of r (inr (inl is)) = of_set r.letter r.number r.rule r.position is
fault_of r (inr (inr (inl is))) = of_whole r.letter r.number r.rule r.position is
fault_of r (inr (inr (inr is))) = of_step r is

numbers_of : (e : Fault) → NamesVariable e → HasNumbers (refusal_of e)
numbers_of e names = search rules

pub has_numbers : (r : Refusal) → IsOfFault r → HasNumbers r
has_numbers r (e, names, is) = subst HasNumbers (sym is) (numbers_of e names)
