-- The item at each place, also after one more came at the end, or after one was written.
use Rattle.std.proofs.Common.{◌≡◌, ◌<◌, ℕ, zero, suc, ◌⊎◌, List, [], ◌∷◌, ◌++◌, Some, inl, inr, refl, ap, length, slice_get, set, arith}
use Rattle.std.proofs.lemmas.Grind.{common_steps}
use Rattle.std.specs.List.{AllByRecursion}

pub at_place : {A : Type 0} (xs : List A) (i : ℕ) → i < length xs → (x : A) × (slice_get xs i ≡ Some x)
at_place [] i less = absurd (omega (arith, less))
at_place (x ∷ xs) zero less = (x, refl)
at_place (x ∷ xs) (suc i) less = at_place xs i (omega (arith, less))

pub pushed_cases : {A : Type 0} (xs : List A) (x : A) (k : ℕ) (a : A) → slice_get (xs ++ x ∷ []) k ≡ Some a
    → (slice_get xs k ≡ Some a) ⊎ ((k ≡ length xs) × (a ≡ x))
pushed_cases [] x k a h = grind (arith, common_steps)
pushed_cases (y ∷ xs) x zero a h = inl h
pushed_cases (y ∷ xs) x (suc k) a h = elim (pushed_cases xs x k a h) [ inl g ↦ inl g | inr (e, f) ↦ inr (ap suc e, f) ]

pub pushed_old : {A : Type 0} (xs : List A) (x : A) (k : ℕ) (a : A) → slice_get xs k ≡ Some a → slice_get (xs ++ x ∷ []) k ≡ Some a
pushed_old [] x k a h = cc h
pushed_old (y ∷ xs) x zero a h = h
pushed_old (y ∷ xs) x (suc k) a h = pushed_old xs x k a h

pub pushed_new : {A : Type 0} (xs : List A) (x : A) → slice_get (xs ++ x ∷ []) (length xs) ≡ Some x
pushed_new [] x = refl
pushed_new (y ∷ xs) x = pushed_new xs x

-- a fact that each item has, and one more
pub AllByRecursion-push : {X : Type 0} (P : X → Type 0) (xs : List X) (x : X) → AllByRecursion P xs → P x → AllByRecursion P (xs ++ x ∷ [])
AllByRecursion-push P xs x h p = grind (arith, common_steps)

-- the item at a place after an item was written
pub written_here : {A : Type 0} (xs : List A) (k : ℕ) (y : A) → k < length xs → slice_get (set xs k y) k ≡ Some y
written_here [] k y less = absurd (omega arith)
written_here (x ∷ xs) zero y less = refl
written_here (x ∷ xs) (suc k) y less = written_here xs k y (omega arith)

pub written_elsewhere : {A : Type 0} (xs : List A) (k j : ℕ) (y : A) → (j ≡ k → ⊥) → slice_get (set xs k y) j ≡ slice_get xs j
written_elsewhere (x ∷ xs) zero j y ne = grind (arith, common_steps)
written_elsewhere (x ∷ xs) (suc k) (suc j) y ne = written_elsewhere xs k j y (λ e. ne (ap suc e))
written_elsewhere xs k j y ne = refl
