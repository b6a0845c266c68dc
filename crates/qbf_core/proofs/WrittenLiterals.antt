-- Literals that are put as the numbers that they are.
use Rattle.qbf_core.proofs.Cited.{rules, common_steps, ◌≡◌, ◌≤◌, ◌+◌, ◌-◌, ℕ, zero, suc, List, [], ◌∷◌, ◌++◌, length, take, drop, map, refl}
use Rattle.qbf_core.proofs.Cited.{sym, ap, ◌∙◌, arith, AllByRecursion, Bool, IsTrue, Literal, literal_of}
use Rattle.std.specs.Prelude.{ℤ, slice_index_or, slice_range, Result, IfOk}
use Rattle.std.proofs.Math.Seq.{take-append-add, take-length}
use Rattle.std.proofs.lemmas.List.{take-map}

-- ---- four items from a place on

-- the place after them
after_four : (place : ℕ) → place + 4 - place ≡ 4
after_four place = omega arith

first_four : {X : Type 0} (d : X) (xs : List X) → 4 ≤ length xs
    → take 4 xs ≡ slice_index_or xs 0 d ∷ slice_index_or xs 1 d ∷ slice_index_or xs 2 d ∷ slice_index_or xs 3 d ∷ []
first_four d xs h = search rules

next_four : {X : Type 0} (d : X) (xs : List X) (place : ℕ) → place + 4 ≤ length xs → take 4 (drop place xs)
    ≡ slice_index_or xs place d ∷ slice_index_or xs (place + 1) d ∷ slice_index_or xs (place + 2) d ∷ slice_index_or xs (place + 3) d ∷ []
next_four d xs zero h = first_four d xs h
next_four d (x ∷ xs) (suc place) h = grind (arith, common_steps, next_four d xs place (omega (arith, h)))
next_four d [] (suc place) h = absurd (omega (arith, h))

pub four_at : {X : Type 0} (d : X) (xs : List X) (place : ℕ) → place + 4 ≤ length xs → slice_range xs place (place + 4)
    ≡ slice_index_or xs place d ∷ slice_index_or xs (place + 1) d ∷ slice_index_or xs (place + 2) d ∷ slice_index_or xs (place + 3) d ∷ []
four_at d xs place h = ap (λ k. take k (drop place xs)) (after_four place) ∙ next_four d xs place h

take_further : {X : Type 0} (xs : List X) (place k : ℕ) → take (place + k) xs ≡ take place xs ++ take k (drop place xs)
take_further (x ∷ xs) (suc place) k =
    let same : suc place + k ≡ suc (place + k) = omega arith in
    ap (λ n. take n (x ∷ xs)) same ∙ ap (λ (ys : List _). x ∷ ys) (take_further xs place k)
take_further xs place k = grind (arith, common_steps)

take_four : {X : Type 0} (xs : List X) (place : ℕ) → take (place + 4) xs ≡ take place xs ++ slice_range xs place (place + 4)
take_four xs place = take_further xs place 4 ∙ ap (λ k. take place xs ++ take k (drop place xs)) (sym (after_four place))

-- ---- facts of each item

all_append : {X : Type 0} (P : X → Type 0) (xs ys : List X) → AllByRecursion P xs → AllByRecursion P ys → AllByRecursion P (xs ++ ys)
all_append P [] ys h k = k
all_append P (x ∷ xs) ys h k = (h.0, all_append P xs ys h.1 k)

pub all_four : {X : Type 0} (P : X → Type 0) (xs : List X) (place : ℕ) → AllByRecursion P (take place xs)
    → AllByRecursion P (slice_range xs place (place + 4)) → AllByRecursion P (take (place + 4) xs)
all_four P xs place h k = rw (take_four xs place) (all_append P (take place xs) (slice_range xs place (place + 4)) h k)

all_fewer : {X : Type 0} (P : X → Type 0) (xs : List X) (last place : ℕ) → last ≤ place → AllByRecursion P (take place xs)
    → AllByRecursion P (take last xs)
all_fewer P [] last place le h = grind (arith, common_steps)
all_fewer P (x ∷ xs) zero place le h = tt
all_fewer P (x ∷ xs) (suc last) zero le h = absurd (omega (arith, le))
all_fewer P (x ∷ xs) (suc last) (suc place) le h = (h.0, all_fewer P xs last place (omega (arith, le)) h.1)

pub all_whole : {X : Type 0} (P : X → Type 0) (xs : List X) (last place : ℕ) → last ≤ place → last + 4 ≡ length xs
    → AllByRecursion P (take place xs) → AllByRecursion P (slice_range xs last (last + 4)) → AllByRecursion P xs
all_whole P xs last place le is h k = grind (arith, common_steps, all_four, all_fewer)

-- ---- literals put after others

pub four_more : (old now new : List Literal) (xs : List ℤ) (place : ℕ) → now ≡ old ++ map literal_of (take place xs)
    → new ≡ now ++ map literal_of (slice_range xs place (place + 4)) → new ≡ old ++ map literal_of (take (place + 4) xs)
four_more old now new xs place e f = grind (arith, common_steps, map, take_four)

take_fewer : {X : Type 0} (xs : List X) (last place : ℕ) → last ≤ place → take last (take place xs) ≡ take last xs
take_fewer [] last place le = grind (arith, common_steps)
take_fewer (x ∷ xs) zero place le = refl
take_fewer (x ∷ xs) (suc last) zero le = absurd (omega (arith, le))
take_fewer (x ∷ xs) (suc last) (suc place) le = ap (λ (ys : List _). x ∷ ys) (take_fewer xs last place (omega (arith, le)))

shortened : (old now : List Literal) (xs : List ℤ) (last place : ℕ) → last ≤ place → now ≡ old ++ map literal_of (take place xs)
    → take (length old + last) now ≡ old ++ map literal_of (take last xs)
shortened old now xs last place le e = grind (arith, common_steps, take-append-add, literal_of, take-map, take_fewer)

pub whole_put : (old now cut new : List Literal) (xs : List ℤ) (last place : ℕ) → last ≤ place → last + 4 ≡ length xs
    → now ≡ old ++ map literal_of (take place xs) → cut ≡ take (length old + last) now
    → new ≡ cut ++ map literal_of (slice_range xs last (last + 4)) → new ≡ old ++ map literal_of xs
whole_put old now cut new xs last place le is e c f =
    four_more old cut new xs last (c ∙ shortened old now xs last place le e) f
    ∙ ap (λ ns. old ++ map literal_of ns) (rw is (take-length xs))

pub if_put : {A B E : Type 0} (r : Result Bool E) → IfOk r (λ b. IsTrue b → A) → (A → B) → IfOk r (λ b. IsTrue b → B)
if_put r h f = search rules
