-- A step number is used exactly if a step is found by it.
use Rattle.std.proofs.Common.{◌≡◌, ℕ, zero, suc, true, false, ◌||◌, ◌⊎◌, inl, inr, nat_eq, List, [], ◌∷◌, Option, Some, None, is_some, IfSome, refl, arith, tests}
use Rattle.std.proofs.lemmas.Bool.{cases_Bool}
use Rattle.std.proofs.lemmas.Grind.{common_steps}
use Rattle.trace_items.specs.Inferences.{Inference, IsAt, numbers}
use Rattle.step_index.specs.Numbers.{is_used}

-- the number of a step is used
listed : (steps : List Inference) (n i : ℕ) (s : Inference) → IsAt steps i s → s.number ≡ n → is_used n (numbers steps) ≡ true
listed [] n i s h e = absurd (cc h)
listed (x ∷ steps) n zero s h e = let same : x ≡ s = cc h in let this : n ≡ x.number = cc (same, e) in grind (arith, common_steps, tests)
listed (x ∷ steps) n (suc i) s h e = let below = listed steps n i s h e in grind (arith, common_steps)

-- a step has a number that is used
abbrev Found : List Inference → ℕ → Type 0
Found steps n = (i : ℕ) × (s : Inference) × IsAt steps i s × (s.number ≡ n)

first_or_later : (x : Inference) (steps : List Inference) (n : ℕ) → (is_used n (numbers steps) ≡ true → Found steps n)
    → (nat_eq n x.number || is_used n (numbers steps)) ≡ true → (nat_eq n x.number ≡ true) ⊎ (nat_eq n x.number ≡ false)
    → Found (x ∷ steps) n
first_or_later x steps n rest u (inl same) = let e : x.number ≡ n = grind (arith, common_steps, tests) in (zero, x, refl, e)
first_or_later x steps n rest u (inr other) = let f = rest (grind (arith, common_steps)) in (suc f.0, f.1, f.2, f.3)

holder : (steps : List Inference) (n : ℕ) → is_used n (numbers steps) ≡ true → Found steps n
holder [] n u = absurd (cc u)
holder (x ∷ steps) n u = first_or_later x steps n (holder steps n) u (cases_Bool (nat_eq n x.number))

-- no step is found by a number that is not used
unused : (steps : List Inference) (n : ℕ) → ((i : ℕ) (s : Inference) → IsAt steps i s → s.number ≡ n → None ≡ Some i)
    → (is_used n (numbers steps) ≡ true) ⊎ (is_used n (numbers steps) ≡ false) → false ≡ is_used n (numbers steps)
unused steps n only h = grind (arith, common_steps, holder)

-- a number is used exactly if a position is found for it
pub found_is_used : (steps : List Inference) (n : ℕ) (o : Option ℕ) → IfSome o (λ i. (s : Inference) × IsAt steps i s × (s.number ≡ n))
    → ((i : ℕ) (s : Inference) → IsAt steps i s → s.number ≡ n → o ≡ Some i) → is_some o ≡ is_used n (numbers steps)
found_is_used steps n o h only = grind (arith, common_steps, listed, unused, numbers)
