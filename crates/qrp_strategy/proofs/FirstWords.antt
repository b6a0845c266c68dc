-- Words of a command line of which the first are known.
use Rattle.std.proofs.Common.{◌≡◌, ◌<◌, ◌≤◌, ◌∙◌, ℕ, List, [], ◌∷◌, sym, ap, map, length, get_or, arith}

pub file_first : {A : Type 0} (f : A → List ℕ) (xs : List A) (a : A) → 2 ≤ length xs → length xs < 3 → a ≡ get_or xs 0 a
    → (z : List ℕ) × (map f xs ≡ f a ∷ z ∷ [])
file_first f (x ∷ y ∷ []) a least below at_a = (f y, ap (λ (k : List ℕ). k ∷ f y ∷ []) (ap f (sym at_a)))
file_first f xs a least below at_a = absurd (omega (arith, least, below))

pub flag_first : {A : Type 0} (f : A → List ℕ) (xs : List A) (a : A) (flag : List ℕ) → 3 ≤ length xs → length xs < 4 → a ≡ get_or xs 0 a
    → f a ≡ flag → (y z : List ℕ) × (map f xs ≡ flag ∷ y ∷ z ∷ [])
flag_first f (x ∷ y ∷ z ∷ []) a flag least below at_a is_a =
    (f y, f z, ap (λ (k : List ℕ). k ∷ f y ∷ f z ∷ []) (ap f (sym at_a) ∙ is_a))
flag_first f xs a flag least below at_a is_a = absurd (omega (arith, least, below))

pub flags_first : {A : Type 0} (f : A → List ℕ) (xs : List A) (a b : A) (flag other : List ℕ) → 4 ≤ length xs → length xs < 5
    → a ≡ get_or xs 0 a → b ≡ get_or xs 1 b → f a ≡ flag → f b ≡ other → (y z : List ℕ) × (map f xs ≡ flag ∷ other ∷ y ∷ z ∷ [])
flags_first f (x ∷ w ∷ y ∷ z ∷ []) a b flag other least below at_a at_b is_a is_b = (
  f y,
  f z,
  ap (λ (k : List ℕ). k ∷ f w ∷ f y ∷ f z ∷ []) (ap f (sym at_a) ∙ is_a)
      ∙ ap (λ (k : List ℕ). flag ∷ k ∷ f y ∷ f z ∷ []) (ap f (sym at_b) ∙ is_b),
)
flags_first f xs a b flag other least below at_a at_b is_a is_b = absurd (omega (arith, least, below))
