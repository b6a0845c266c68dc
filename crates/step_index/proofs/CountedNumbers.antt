-- Numbers that are counted from a first one, with others after them.
use Rattle.std.proofs.Common.{rules, ◌≡◌, ◌<◌, ◌≤◌, ◌+◌, ◌-◌, ◌^◌, ◌⊎◌, ℕ, zero, suc, true, false, List, [], ◌∷◌, ◌++◌, length, slice_get}
use Rattle.std.proofs.Common.{nat_eq, Option, None, Some, IfSome, IfNone, refl, sym, ap, ◌∙◌, inl, inr, arith, is_some, eq-eqb, append-nil}
use Rattle.std.specs.Map.{lookup}
use Rattle.std.proofs.lemmas.Grind.{common_steps}
use Rattle.std.proofs.lemmas.Bool.{cases_lt}
use Rattle.std.proofs.lemmas.Bool.Decides.{eqb_tells}
use Rattle.std.proofs.lemmas.Map.Keys.{any_passes_from_place}
use Rattle.step_index.specs.Numbers.{is_used, count_from, AreStepNumbers}
use Rattle.step_index.specs.NumberSets.{HasBit}
use Rattle.step_index.specs.Sparse.{AreFound}
use Rattle.lists.proofs.DistinctNumbers.{push_distinct, all_at}
use Rattle.std.specs.List.{AllByRecursion}

pub count_length : (f n : ℕ) (ks : List ℕ) → length (count_from f n ++ ks) ≡ n + length ks
count_length f zero ks = omega arith
count_length f (suc n) ks = (let rest = count_length (suc f) n ks in omega (arith, rest))

count_more : (f n : ℕ) → count_from f (n + 1) ≡ count_from f n ++ (f + n) ∷ []
count_more f zero = (let e : f ≡ f + 0 = omega arith in ap (λ (m : ℕ). m ∷ []) e)
count_more f (suc n) = grind (arith, common_steps, count_more (suc f) n)

-- ---- the number at a place

pub front_at : (f n : ℕ) (ks : List ℕ) (i : ℕ) → i < n → slice_get (count_from f n ++ ks) i ≡ Some (f + i)
front_at f zero ks i less = absurd (omega (arith, less))
front_at f (suc n) ks zero less = (let e : f ≡ f + 0 = omega arith in ap (λ (m : ℕ). Some m) e)
front_at f (suc n) ks (suc i) less = grind (arith, common_steps, front_at (suc f) n ks i (omega (arith, less)))

pub past_counted : (f n : ℕ) (ks : List ℕ) (i : ℕ) → slice_get (count_from f n ++ ks) (n + i) ≡ slice_get ks i
past_counted f zero ks i = (let e : 0 + i ≡ i = omega arith in ap (slice_get ks) e)
past_counted f (suc n) ks i = grind (arith, common_steps, past_counted (suc f) n ks i)

pub late_at : (f n : ℕ) (ks : List ℕ) (i : ℕ) → n ≤ i → slice_get (count_from f n ++ ks) i ≡ slice_get ks (i - n)
late_at f n ks i late = grind (arith, common_steps, past_counted)

-- ---- whether a number is there

-- no counted number is m
abbrev pub NotCounted : ℕ → ℕ → ℕ → Type 0
NotCounted f n m = (i : ℕ) → i < n → f + i ≡ m → ⊥

used_at : (ks : List ℕ) (i m : ℕ) → slice_get ks i ≡ Some m → is_used m ks ≡ true
used_at ks i m h = any_passes_from_place (nat_eq m) ks i m h (eq-eqb m m refl)

unused_front : (f n : ℕ) (ks : List ℕ) (m : ℕ) → NotCounted f n m → is_used m (count_from f n ++ ks) ≡ is_used m ks
unused_front f zero ks m out = refl
unused_front f (suc n) ks m out = elim (eqb_tells m f) [
  | inl (t, is) ↦ absurd (out 0 (omega arith) (let e : m ≡ f = is in omega (arith, e)))
  | inr (t, ne) ↦ rw t (unused_front (suc f) n ks m (λ i less e. out (suc i) (omega (arith, less)) (omega (arith, e))))
]

pub found_used : (f n : ℕ) (ks : List ℕ) (m : ℕ) (o : Option ℕ) → IfSome o (λ i. (i < n) × (f + i ≡ m)) → is_some o ≡ true
    → is_used m (count_from f n ++ ks) ≡ true
found_used f n ks m None h t = cc t
found_used f n ks m (Some i) h t = used_at (count_from f n ++ ks) i m (front_at f n ks i h.0 ∙ ap (λ (k : ℕ). Some k) h.1)

pub unfound_used : (f n : ℕ) (ks : List ℕ) (m : ℕ) (o : Option ℕ) → IfNone o (NotCounted f n m) → is_some o ≡ false
    → is_used m (count_from f n ++ ks) ≡ is_used m ks
unfound_used f n ks m o out t = grind (arith, common_steps, unused_front)

-- a number that is not counted and not sparse has no place
pub none_there : (f n : ℕ) (ks : List ℕ) (m : ℕ) → NotCounted f n m → ((i : ℕ) → slice_get ks i ≡ Some m → ⊥)
    → (i : ℕ) → slice_get (count_from f n ++ ks) i ≡ Some m → ⊥
none_there f n ks m out none i here = elim (cases_lt i n) [
  | inl less ↦ out i less (let e : Some (f + i) ≡ Some m = sym (front_at f n ks i less) ∙ here in cc e)
  | inr late ↦ none (i - n) (sym (late_at f n ks i late) ∙ here)
]

-- a sparse number stands after those that are counted
pub sparse_at : (f n : ℕ) (ks : List ℕ) (m i : ℕ) → slice_get ks i ≡ Some m → slice_get (count_from f n ++ ks) (n + i) ≡ Some m
sparse_at f n ks m i e = past_counted f n ks i ∙ e

unused_none : (ks : List ℕ) (m : ℕ) → ((i : ℕ) → slice_get ks i ≡ Some m → ⊥) → is_used m ks ≡ false
unused_none [] m none = refl
unused_none (k ∷ ks) m none =
    let first = none 0 in
    let rest = unused_none ks m (λ i. none (suc i)) in
    search rules

-- a number above all of them
pub unused_above : (ks : List ℕ) (m top : ℕ) → AllByRecursion (λ n. n ≤ top) ks → top < m → is_used m ks ≡ false
unused_above ks m top below above = grind (arith, common_steps, unused_none, all_at)

-- the answer of a look-up says whether the number is sparse
pub sparse_used : (ks : List ℕ) (m : ℕ) (o : Option ℕ) → IfSome o (λ i. slice_get ks i ≡ Some m)
    → IfNone o ((i : ℕ) → slice_get ks i ≡ Some m → ⊥) → is_some o ≡ is_used m ks
sparse_used ks m o some none = grind (arith, common_steps, unused_none, used_at)

-- and so does the answer of a set, or else of a map
module _ (near table : List ℕ) (far : List (ℕ × ℕ)) (ks : List ℕ) (placed m : ℕ) (found : AreFound near table far ks placed) where
  pub near_used : HasBit near m → true ≡ is_used m ks
  near_used has = let w = found.near_sound m has in sparse_used ks m (Some w.0) w.1 tt

  pub far_used : (o : Option ℕ) → (HasBit near m → ⊥) → o ≡ lookup (nat_eq m) far → is_some o ≡ is_used m ks
  far_used o none is = search (rules, sparse_used)

-- ---- one more number

pub numbers_pushed : (ns : List ℕ) (m : ℕ) → AreStepNumbers ns → is_used m ns ≡ false → m < 2 ^ 64 → length ns + 1 < 2 ^ 64
    → AreStepNumbers (ns ++ m ∷ [])
numbers_pushed ns m are new fit few = grind (arith, common_steps, push_distinct)

-- of numbers that are all counted
pub counted_pushed : (f n m : ℕ) (ks : List ℕ) → length ks ≡ 0 → (n ≡ 0) ⊎ (f + n ≡ m) → (g : ℕ) → (n ≡ 0 → g ≡ m) → ((n ≡ 0 → ⊥) → g ≡ f)
    → count_from g (n + 1) ++ ks ≡ (count_from f n ++ ks) ++ m ∷ []
counted_pushed f n m ks none next g first later = grind (arith, common_steps, append-nil, count_more)

-- the number at a place, and the place of a number
pub ruleset number_at = (count_length, front_at, late_at)

pub ruleset place_of_number = (front_at, none_there, sparse_at)
