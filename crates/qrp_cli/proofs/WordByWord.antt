-- The words of the command line, one by one.
use Rattle.std.proofs.lemmas.Grind.{common_steps}
use Rattle.std.proofs.Common.{◌≡◌, ◌∙◌, ℕ, ◌≤◌, ◌<◌, List, [], ◌∷◌, map, length, get_or, refl, sym, ap, arith}
use Rattle.std.proofs.lemmas.List.{length-map}

pub two_words : {A B : Type 0} (f : A → B) (xs : List A) (d : A) → 2 ≤ length xs → length xs < 3
    → (y : B) × (map f xs ≡ f (get_or xs 0 d) ∷ y ∷ [])
two_words f (x ∷ y ∷ []) d least below = (f y, refl)
two_words f xs d least below = absurd (omega (arith, least, below))

pub three_words : {A B : Type 0} (f : A → B) (xs : List A) (d : A) → 3 ≤ length xs → length xs < 4
    → (y z : B) × (map f xs ≡ f (get_or xs 0 d) ∷ y ∷ z ∷ [])
three_words f (x ∷ y ∷ z ∷ []) d least below = (f y, f z, refl)
three_words f xs d least below = absurd (omega (arith, least, below))

-- four words, by what is known of some of them
pub first_same : {A : Type 0} (xs : List A) (a b : A) → 4 ≤ length xs → a ≡ get_or xs 0 a → b ≡ get_or xs 0 b → a ≡ b
first_same [] a b least is_a is_b = absurd (omega (arith, least))
first_same (x ∷ xs) a b least is_a is_b = is_a ∙ sym is_b

pub flag_second : {A : Type 0} (f : A → List ℕ) (xs : List A) (a b : A) (command flag : List ℕ) → 4 ≤ length xs → length xs < 5
    → a ≡ get_or xs 0 a → f a ≡ command → b ≡ get_or xs 1 b → f b ≡ flag → (y z : List ℕ) × (map f xs ≡ command ∷ flag ∷ y ∷ z ∷ [])
flag_second f (x ∷ y ∷ z ∷ w ∷ []) a b command flag least below at_a is_a at_b is_b = (
  f z,
  f w,
  ap (λ (k : List ℕ). k ∷ f y ∷ f z ∷ f w ∷ []) (ap f (sym at_a) ∙ is_a)
      ∙ ap (λ (k : List ℕ). command ∷ k ∷ f z ∷ f w ∷ []) (ap f (sym at_b) ∙ is_b),
)
flag_second f xs a b command flag least below at_a is_a at_b is_b = absurd (omega (arith, least, below))

pub flag_fourth : {A : Type 0} (f : A → List ℕ) (xs : List A) (a b d : A) (command flag : List ℕ) → 4 ≤ length xs → length xs < 5
    → a ≡ get_or xs 0 a → f a ≡ command → b ≡ get_or xs 1 b → (f b ≡ flag → ⊥) → d ≡ get_or xs 3 d → f d ≡ flag
    → (y z : List ℕ) × (map f xs ≡ command ∷ y ∷ z ∷ flag ∷ []) × (y ≡ flag → ⊥)
flag_fourth f (x ∷ y ∷ z ∷ w ∷ []) a b d command flag least below at_a is_a at_b not_b at_d is_d = (
  f y,
  f z,
  ap (λ (k : List ℕ). k ∷ f y ∷ f z ∷ f w ∷ []) (ap f (sym at_a) ∙ is_a)
      ∙ ap (λ (k : List ℕ). command ∷ f y ∷ f z ∷ k ∷ []) (ap f (sym at_d) ∙ is_d),
  λ e. not_b (ap f at_b ∙ e),
)
flag_fourth f xs a b d command flag least below at_a is_a at_b not_b at_d is_d = absurd (omega (arith, least, below))

-- three or more words are not two
pub no_two_words : {A B : Type 0} (f : A → B) (xs : List A) (y z : B) → 3 ≤ length xs → map f xs ≡ y ∷ z ∷ [] → ⊥
no_two_words f xs y z least is = grind (arith, common_steps, length-map)
