-- A trimmed trace is well formed, and so its text reads as it.
use Rattle.trace_check.proofs.Cited.{◌≡◌, ℕ, zero, suc, ◌<◌, ◌≤◌, List, [], ◌∷◌, inl, inr, refl, length, Some, arith, nat_eq, rules, slice_get, slice_get_cases, slice_get_within, ◌∈◌, Inference, numbers, Derivation, steps_at, HasOwnNumbers, own_numbers, ListsCore}
use Rattle.std.proofs.Common.{◌^◌}
use Rattle.std.specs.List.{IsDistinct}
use Rattle.trace_items.specs.Derivations.{IsWellFormed}
use Rattle.qrp.proofs.ReadingLaws.{text_is_read}
use Rattle.qrp_check.specs.Laws.{TrimmedTextProves}
use Rattle.trace_check.specs.Trim.{trimmed_trace}
use Rattle.core_walk.proofs.Marking.{core_within}
use Rattle.qrp.proofs.WrittenParts.{length_at}
use Rattle.trace_check.proofs.StepsAt.{core_inside, each_at, numbers_at, others_at}
use Rattle.trace_check.proofs.TrimKeeps.{trimming_keeps}
use Rattle.trace_check.proofs.TrimAgain.{trimmed_is_fixed}
use Rattle.qbf_core.proofs.Members.{in_got}

-- places that rise: a later one is greater
abbrev Rises : List ℕ → Type 0
Rises places = (k l i j : ℕ) → slice_get places k ≡ Some i → slice_get places l ≡ Some j → k < l → i < j

head_out : (p : ℕ) (places : List ℕ) → Rises (p ∷ places) → p ∈ places → ⊥
head_out p places rises h =
    let w = in_got places p h in
    let worse : p < p = rises 0 (suc w.0) p p refl w.1 (omega arith) in
    omega (arith, worse)

tail_rises : (p : ℕ) (places : List ℕ) → Rises (p ∷ places) → Rises places
tail_rises p places rises = λ k l i j at_k at_l less. rises (suc k) (suc l) i j at_k at_l (omega (arith, less))

distinct_at : (steps : List Inference) (places : List ℕ) → HasOwnNumbers steps → Rises places
    → IsDistinct nat_eq (numbers (steps_at steps places))
unfolding IsDistinct
distinct_at steps [] own rises = tt
distinct_at steps (p ∷ places) own rises =
    search (rules, slice_get_cases, others_at, head_out, tail_rises, distinct_at steps places own (tail_rises p places rises))

-- each of some rising places is at least the number of places before it
climbs : (places : List ℕ) (k i : ℕ) → Rises places → slice_get places k ≡ Some i → k ≤ i
climbs places zero i rises here = omega arith
climbs places (suc k) i rises here = elim (slice_get_cases places k).1 [
  | inl (j, _, at_k, _) ↦ search (rules, climbs places k j rises at_k)
  | inr (past, _) ↦ absurd (let within : suc k < length places = slice_get_within places (suc k) i here in omega (arith, within, past))
]

few_places : (n m : ℕ) (places : List ℕ) → length places ≡ m → Rises places → ((k i : ℕ) → slice_get places k ≡ Some i → i < n) → m ≤ n
few_places n zero places count rises inside = omega arith
few_places n (suc m) places count rises inside = elim (slice_get_cases places m).1 [
  | inl (i, _, here, _) ↦ search (rules, climbs)
  | inr (past, _) ↦ absurd (omega (arith, count, past))
]

pub well_formed : (d : Derivation) (core : List ℕ) → IsWellFormed d → ListsCore d.steps core → IsWellFormed (trimmed_trace d core)
well_formed d core formed lists =
    let count : length (steps_at d.steps core) ≡ length core = length_at d.steps core (core_inside d.steps core lists) in
    let few : length core ≤ length d.steps =
    few_places (length d.steps) (length core) core refl lists.rises (λ k i here. core_within d.steps i (lists.sound k i here)) in
    let all : length d.steps < 2 ^ 64 = formed.fits.count in
    let fits : length (steps_at d.steps core) < 2 ^ 64 = omega (arith, count, few, all) in
    record {
      grammatical = search (rules, each_at, distinct_at, own_numbers);
      fits = search (rules, numbers_at, each_at);
    }

pub trimmed_text_proves : TrimmedTextProves
trimmed_text_proves rules f d core formed lists proof =
    let kept = trimming_keeps rules f d core formed.grammatical.distinct lists proof in
    let again = well_formed d core formed lists in
    record {
      proves = kept.0;
      all = kept.1;
      fixed = λ other other_lists. trimmed_is_fixed rules f d core other formed.grammatical.distinct lists proof other_lists;
      formed = again;
      read = text_is_read (trimmed_trace d core) again;
    }
