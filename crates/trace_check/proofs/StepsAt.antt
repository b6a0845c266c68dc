-- The steps at some places: what holds of them, and that rising places give steps of different numbers.
use Rattle.trace_check.proofs.Cited.{◌≡◌, ℕ, suc, ◌+◌, ◌<◌, false, List, [], ◌∷◌, ◌++◌, inr, refl, ap, ◌∙◌, length, rules, take, get_or, Some}
use Rattle.trace_check.proofs.Cited.{arith, nat_eq, slice_get, AllByRecursion, take_more, slice_get_cases, get_or_from_slice_get, ◌∈◌}
use Rattle.trace_check.proofs.Cited.{Inference, IsAt, numbers, HasOwnNumbers, ListsCore, steps_at, in_take}
use Rattle.std.proofs.Common.{◌||◌}
use Rattle.std.specs.List.{cons_option}
use Rattle.std.specs.List.Sorted.{IsStrictlyIncreasing}
use Rattle.std.proofs.lemmas.Bool.{ne_eqb}
use Rattle.std.proofs.lemmas.List.Elements.{filter_map-append}
use Rattle.std.proofs.lemmas.List.Kept.{AllPairs-from_increasing}
use Rattle.lists.proofs.DistinctNumbers.{all_at}
use Rattle.step_index.specs.Numbers.{is_used}
use Rattle.core_walk.proofs.Marking.{core_within}

-- ---- lists by places

all_of_each : {X : Type 0} (P : X → Type 0) (xs : List X) → ((k : ℕ) (x : X) → slice_get xs k ≡ Some x → P x) → AllByRecursion P xs
all_of_each P [] each = tt
all_of_each P (x ∷ xs) each = (each 0 x refl, all_of_each P xs (λ k y here. each (suc k) y here))

-- an item of a rising list is not among those before it
not_before : (xs : List ℕ) (k : ℕ) → IsStrictlyIncreasing xs → k < length xs → get_or xs k 0 ∈ take k xs → ⊥
not_before xs k rises less h =
    let w = in_take xs k (get_or xs k 0) h in
    let below : get_or xs w.0 0 < get_or xs k 0 = AllPairs-from_increasing xs rises w.0 k 0 w.1 less in
    omega (arith, below, get_or_from_slice_get xs w.0 (get_or xs k 0) 0 w.2)

-- ---- the places of a core

pub core_inside : (steps : List Inference) (core : List ℕ) → ListsCore steps core → AllByRecursion (λ i. i < length steps) core
core_inside steps core lists = all_of_each (λ i. i < length steps) core (λ k i here. core_within steps i (lists.sound k i here))

-- ---- the steps

pub next_at : (steps : List Inference) (places : List ℕ) (k : ℕ) (s : Inference) → k < length places → IsAt steps (get_or places k 0) s
    → steps_at steps (take (k + 1) places) ≡ steps_at steps (take k places) ++ s ∷ []
next_at steps places k s less here =
    ap (λ ps. steps_at steps ps) (take_more places k 0 less)
    ∙ filter_map-append (slice_get steps) (take k places) (get_or places k 0 ∷ [])
    ∙ ap (λ o. steps_at steps (take k places) ++ cons_option o []) here

pub each_at : (P : Inference → Type 0) (steps : List Inference) (places : List ℕ) → AllByRecursion P steps
    → AllByRecursion P (steps_at steps places)
each_at P steps [] all = tt
each_at P steps (p ∷ places) all = search (rules, slice_get_cases, all_at, each_at P steps places all)

-- ---- their numbers

number_holds : (P : ℕ → Type 0) (steps : List Inference) → AllByRecursion P (numbers steps) → AllByRecursion (λ s. P s.number) steps
number_holds P [] all = tt
number_holds P (s ∷ steps) all = (all.0, number_holds P steps all.1)

pub holds_number : (P : ℕ → Type 0) (steps : List Inference) → AllByRecursion (λ s. P s.number) steps → AllByRecursion P (numbers steps)
holds_number P [] all = tt
holds_number P (s ∷ steps) all = (all.0, holds_number P steps all.1)

pub numbers_at : (P : ℕ → Type 0) (steps : List Inference) (places : List ℕ) → AllByRecursion P (numbers steps)
    → AllByRecursion P (numbers (steps_at steps places))
numbers_at P steps places all = holds_number P (steps_at steps places) (each_at (λ s. P s.number) steps places (number_holds P steps all))

-- the steps at other places have other numbers
pub others_at : (steps : List Inference) (places : List ℕ) (i : ℕ) (s : Inference) → HasOwnNumbers steps → IsAt steps i s → (i ∈ places → ⊥)
    → AllByRecursion (λ n. nat_eq s.number n ≡ false) (numbers (steps_at steps places))
others_at steps [] i s own here out = tt
others_at steps (p ∷ places) i s own here out =
    search (rules, slice_get_cases, ne_eqb, others_at steps places i s own here (λ h. out (inr h)))

is_unused : (n : ℕ) (ns : List ℕ) → AllByRecursion (λ m. nat_eq n m ≡ false) ns → is_used n ns ≡ false
is_unused n [] all = refl
is_unused n (m ∷ ns) all = ap (λ b. b || is_used n ns) all.0 ∙ is_unused n ns all.1

pub fresh_at : (steps : List Inference) (core : List ℕ) (k : ℕ) (s : Inference) → HasOwnNumbers steps → IsStrictlyIncreasing core
    → k < length core
    → IsAt steps (get_or core k 0) s → is_used s.number (numbers (steps_at steps (take k core))) ≡ false
fresh_at steps core k s own rises less here = search (rules, is_unused, others_at, not_before)
