-- As many bound variables as the header allows: each that it allows is bound.
use Rattle.qdimacs.proofs.Cited.{common_steps, rules, ◌≡◌, ℕ, ◌≤◌, ◌+◌, ◌||◌, Bool, true, false, List, [], ◌∷◌, length, eqb, refl, ap}
use Rattle.qdimacs.proofs.Cited.{arith, AllByRecursion, Block, pairs, variables, is_bound, IsVariable, list_any, length-map, all_of}
use Rattle.qdimacs.proofs.Cited.{IsDistinct-cons, length-le_from_distinct_below, IsPrefix, IsFull, Pairs}
use Rattle.dimacs_syntax.proofs.Cited.{IsDistinct}

-- ---- numbers that are in no list

apart : (v : ℕ) (vs : List ℕ) → list_any (eqb v) vs ≡ false → AllByRecursion (λ w. eqb v w ≡ false) vs
apart v [] none = tt
apart v (w ∷ vs) none = let rest = apart v vs in search rules

below : (n : ℕ) (vs : List ℕ) → AllByRecursion (λ v. v ≤ n) vs → (q : ℕ) → list_any (eqb q) vs ≡ true → q ≤ n
below n [] h q e = search rules
below n (v ∷ vs) h q e = let rest = below n vs in search rules

-- ---- as many distinct numbers from 1 to n as n

module _ (n : ℕ) (vs : List ℕ) (distinct : IsDistinct eqb vs) (within : AllByRecursion IsVariable vs) (top : AllByRecursion (λ v. v ≤ n) vs)
    (count : length vs ≡ n) where
  -- with one that is missing, and 0, they would be too many below n + 1
  crowded : (v : ℕ) → 1 ≤ v → v ≤ n → list_any (eqb v) vs ≡ false → ⊥
  crowded v low high none =
      let zero : AllByRecursion (λ w. eqb 0 w ≡ false) (v ∷ vs) =
      (search rules, all_of IsVariable (λ w. eqb 0 w ≡ false) (λ w is. search rules) vs within) in
      let longer : IsDistinct eqb (0 ∷ v ∷ vs) =
      IsDistinct-cons eqb 0 (v ∷ vs) zero (IsDistinct-cons eqb v vs (apart v vs none) distinct) in
      let few : length (0 ∷ v ∷ vs) ≤ n + 1 = length-le_from_distinct_below (0 ∷ v ∷ vs) (n + 1) longer
      (λ q h. let b = below n (0 ∷ v ∷ vs) (omega arith, (high, top)) q h in omega arith) in
      absurd (omega (arith, few, count))

  pub each_stands : (v : ℕ) → 1 ≤ v → v ≤ n → list_any (eqb v) vs ≡ true
  each_stands v low high = grind (arith, common_steps, crowded)

pub is_bound_variables : (v : ℕ) (ps : Pairs) → is_bound v ps ≡ list_any (eqb v) (variables ps)
is_bound_variables v [] = refl
is_bound_variables v (p ∷ ps) = ap (λ (b : Bool). eqb v p.1 || b) (is_bound_variables v ps)

-- as many bound variables as the header allows
pub full : (max_var : ℕ) (bs : List Block) (n : ℕ) → IsPrefix bs → AllByRecursion (λ v. v ≤ max_var) (variables (pairs bs))
    → n ≡ length (pairs bs) → eqb n max_var ≡ true → IsFull max_var (pairs bs)
full max_var bs n prefix top counted compared = grind (arith, common_steps, length-map, is_bound_variables, each_stands)
