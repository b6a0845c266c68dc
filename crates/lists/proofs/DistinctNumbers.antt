-- Distinct numbers, one after the other.
use Rattle.std.proofs.Common.{arith, rules, ◌≡◌, ℕ, zero, suc, false, List, [], ◌∷◌, ◌++◌, Some, refl, ap, subst, slice_get, nat_eq}
use Rattle.std.proofs.lemmas.Grind.{common_steps}
use Rattle.std.specs.List.{AllByRecursion, list_any, IsDistinct}
use Rattle.std.specs.Cmp.{nat_eq_equiv}
use Rattle.std.proofs.lemmas.Map.Keys.{IsDistinct-head, IsDistinct-tail, IsDistinct-push}

pub middle : {X : Type 0} (P : X → Type 0) (xs more : List X) (x : X) → AllByRecursion P (xs ++ x ∷ more) → P x
middle P [] more x h = h.0
middle P (y ∷ xs) more x h = middle P xs more x h.1

pub front_all : {X : Type 0} (P : X → Type 0) (xs ys : List X) → AllByRecursion P (xs ++ ys) → AllByRecursion P xs
front_all P [] ys h = tt
front_all P (x ∷ xs) ys h = (h.0, front_all P xs ys h.1)

pub front_distinct : (ms ns : List ℕ) → IsDistinct nat_eq (ms ++ ns) → IsDistinct nat_eq ms
unfolding IsDistinct
front_distinct [] ns h = tt
front_distinct (m ∷ ms) ns h = (front_all (λ k. nat_eq m k ≡ false) ms ns h.0, front_distinct ms ns h.1)

-- a number that comes later is not there yet
pub new_number : (ns more : List ℕ) (n : ℕ) → IsDistinct nat_eq (ns ++ n ∷ more) → list_any (nat_eq n) ns ≡ false
new_number [] more n h = refl
new_number (m ∷ ns) more n h =
    let apart = middle (λ k. nat_eq m k ≡ false) ns more n (IsDistinct-head nat_eq m (ns ++ n ∷ more) h) in
    let rest = new_number ns more n (IsDistinct-tail nat_eq m (ns ++ n ∷ more) h) in
    search rules

-- and one that is not there may come
pub push_distinct : (ns : List ℕ) (n : ℕ) → IsDistinct nat_eq ns → list_any (nat_eq n) ns ≡ false → IsDistinct nat_eq (ns ++ n ∷ [])
push_distinct = IsDistinct-push nat_eq_equiv

pub all_at : {X : Type 0} (P : X → Type 0) (xs : List X) (i : ℕ) (x : X) → AllByRecursion P xs → slice_get xs i ≡ Some x → P x
all_at P [] i x h e = cc e
all_at P (y ∷ xs) zero x h e = let same : y ≡ x = cc e in subst P same h.0
all_at P (y ∷ xs) (suc i) x h e = all_at P xs i x h.1 e

-- the first number does not stand later again
first_once : (m : ℕ) (ns : List ℕ) (i n : ℕ) → IsDistinct nat_eq (m ∷ ns) → Some m ≡ Some n → slice_get ns i ≡ Some n → ⊥
first_once m ns i n d same e = grind (arith, common_steps, all_at, IsDistinct-head)

-- no number stands at two places
pub one_place : (ns : List ℕ) → IsDistinct nat_eq ns → (i j n : ℕ) → slice_get ns i ≡ Some n → slice_get ns j ≡ Some n → i ≡ j
one_place [] d i j n h k = absurd (cc h)
one_place (m ∷ ns) d zero j n h k = grind (arith, common_steps, first_once)
one_place (m ∷ ns) d (suc i) zero n h k = absurd (first_once m ns i n d k h)
one_place (m ∷ ns) d (suc i) (suc j) n h k = ap suc (one_place ns (IsDistinct-tail nat_eq m ns d) i j n h k)
