-- Numbers that are noted in a set or a map: one more of them, and the place of one more in the table.
use Rattle.std.proofs.Common.{rules, ◌≡◌, ℕ, ◌<◌, ◌≤◌, List, [], ◌∷◌, ◌++◌, Some, None, inl, inr, sym, ap, ◌∙◌, length, get_or}
use Rattle.std.proofs.Common.{slice_get, cond, nat_eq, arith, max, eq-eqb, ne_eqb, length-append}
use Rattle.std.specs.Prelude.{◌↔◌, ◌⊎◌}
use Rattle.std.specs.List.{AllByRecursion}
use Rattle.lists.proofs.PushedItems.{AllByRecursion-push}
use Rattle.std.specs.Map.{lookup}
use Rattle.std.proofs.lemmas.Bool.{cases_eq}
use Rattle.step_index.specs.NumberSets.{HasBit}
use Rattle.step_index.specs.Sparse.{AreFound, IsFar}
use Rattle.lists.proofs.PushedItems.{pushed_cases, pushed_old, pushed_new}

-- ---- no number is greater than the greatest

below_more : (ns : List ℕ) (g top : ℕ) → g ≤ top → AllByRecursion (λ n. n ≤ g) ns → AllByRecursion (λ n. n ≤ top) ns
below_more [] g top more h = tt
below_more (n ∷ ns) g top more h = (omega (arith, more, h.0), below_more ns g top more h.1)

-- with one more number
pub below_raised : (ns : List ℕ) (m g top : ℕ) → top ≡ max g m → AllByRecursion (λ n. n ≤ g) ns → AllByRecursion (λ n. n ≤ top) (ns ++ m ∷ [])
below_raised ns m g top is h = AllByRecursion-push (λ n. n ≤ top) ns m (below_more ns g top (omega (arith, is)) h) (omega (arith, is))

-- ---- a table that grew

pub found_grown : (near table grown : List ℕ) (far : List (ℕ × ℕ)) (numbers : List ℕ) (placed : ℕ) → AreFound near table far numbers placed
    → ((n : ℕ) → get_or grown n 0 ≡ get_or table n 0) → AreFound near grown far numbers placed
found_grown near table grown far numbers placed found same = search rules

-- ---- one more number

module _ (near table : List ℕ) (far : List (ℕ × ℕ)) (numbers : List ℕ) (placed m : ℕ) (found : AreFound near table far numbers placed) where
  -- the first numbers are as they were
  old_at : (n i : ℕ) → i < placed → slice_get (numbers ++ m ∷ []) i ≡ Some n → slice_get numbers i ≡ Some n
  old_at n i less here = search (rules, pushed_cases)

  more_few : placed ≤ length (numbers ++ m ∷ [])
  more_few = omega (arith, found.few, length-append numbers (m ∷ []))

  -- the set has the new one
  pub found_near : (more grown : List ℕ) → ((n : ℕ) → HasBit more n ↔ (HasBit near n ⊎ (n ≡ m)))
      → ((n : ℕ) → get_or grown n 0 ≡ get_or table n 0) → AreFound more grown far (numbers ++ m ∷ []) placed
  found_near more grown has same = record {
    table_sound = λ n i e. pushed_old numbers m i n (found.table_sound n i (sym (same n) ∙ e));
    far_sound = λ n i e. pushed_old numbers m i n (found.far_sound n i e);
    near_sound = λ n h. elim ((has n).0 h) [
      | inl old ↦ let w = found.near_sound n old in (w.0, pushed_old numbers m w.0 n w.1)
      | inr is ↦ (length numbers, pushed_new numbers m ∙ ap (λ (k : ℕ). Some k) (sym is))
    ];
    noted = λ n i here. elim (pushed_cases numbers m i n here) [
      | inl old ↦ search rules
      | inr new ↦ inl ((has n).1 (inr new.1))
    ];
    first = search (rules, old_at);
    few = more_few;
  }

  -- the map has it
  pub found_far : (more : List (ℕ × ℕ)) (place : ℕ) → place ≡ length numbers
      → ((n : ℕ) → lookup (nat_eq n) more ≡ cond (nat_eq m n) (Some place) (lookup (nat_eq n) far))
      → AreFound near table more (numbers ++ m ∷ []) placed
  found_far more place is updates = record {
    table_sound = λ n i e. pushed_old numbers m i n (found.table_sound n i e);
    far_sound = λ n i e. elim (cases_eq n m) [
      | inl same ↦
          search (rules, there, pushed_new)
      | inr other ↦ pushed_old numbers m i n (found.far_sound n i (sym (kept n other) ∙ e))
    ];
    near_sound = λ n h. let w = found.near_sound n h in (w.0, pushed_old numbers m w.0 n w.1);
    noted = search (rules, pushed_cases, still_far, there);
    first = search (rules, old_at, still_far);
    few = more_few;
  }
    where
      there : (n : ℕ) → n ≡ m → lookup (nat_eq n) more ≡ Some place
      there n same = updates n ∙ ap (λ b. cond b (Some place) (lookup (nat_eq n) far)) (eq-eqb m n (sym same))

      kept : (n : ℕ) → (n ≡ m → ⊥) → lookup (nat_eq n) more ≡ lookup (nat_eq n) far
      kept n other = updates n ∙ ap (λ b. cond b (Some place) (lookup (nat_eq n) far)) (ne_eqb m n (λ e. other (sym e)))

      still_far : (n : ℕ) → IsFar far n → IsFar more n
      still_far n h = search (rules, there, kept)

-- ---- looking a number up

-- a number that neither table nor map has, and that is not among the last ones, did not come
pub not_there : (near table : List ℕ) (far : List (ℕ × ℕ)) (numbers : List ℕ) (placed n : ℕ) → AreFound near table far numbers placed
    → get_or table n 0 ≡ 0 → lookup (nat_eq n) far ≡ None → ((i : ℕ) → placed ≤ i → slice_get numbers i ≡ Some n → ⊥)
    → (i : ℕ) → slice_get numbers i ≡ Some n → ⊥
not_there near table far numbers placed n found empty none last i here = search rules
