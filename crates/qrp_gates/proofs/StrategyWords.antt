-- Five words of a command line of which the first three are known.
use Rattle.std.proofs.Common.{◌≡◌, ◌<◌, ◌≤◌, ◌∙◌, ℕ, List, [], ◌∷◌, sym, ap, map, length, get_or, arith}

pub three_first : {A : Type 0} (f : A → List ℕ) (xs : List A) (a b d : A) (command flag other : List ℕ) → 5 ≤ length xs → length xs < 6
    → a ≡ get_or xs 0 a → b ≡ get_or xs 1 b → d ≡ get_or xs 2 d → f a ≡ command → f b ≡ flag → f d ≡ other
    → (y z : List ℕ) × (map f xs ≡ command ∷ flag ∷ other ∷ y ∷ z ∷ [])
three_first f (x ∷ v ∷ w ∷ y ∷ z ∷ []) a b d command flag other least below at_a at_b at_d is_a is_b is_d = (
  f y,
  f z,
  ap (λ (k : List ℕ). k ∷ f v ∷ f w ∷ f y ∷ f z ∷ []) (ap f (sym at_a) ∙ is_a)
      ∙ (ap (λ (k : List ℕ). command ∷ k ∷ f w ∷ f y ∷ f z ∷ []) (ap f (sym at_b) ∙ is_b)
      ∙ ap (λ (k : List ℕ). command ∷ flag ∷ k ∷ f y ∷ f z ∷ []) (ap f (sym at_d) ∙ is_d)),
)
three_first f xs a b d command flag other least below at_a at_b at_d is_a is_b is_d = absurd (omega (arith, least, below))
