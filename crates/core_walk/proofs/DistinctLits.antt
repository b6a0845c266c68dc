-- Steps that are kept with each of their literals once.
use Rattle.core_walk.proofs.Cited.{◌≡◌, ℕ, ◌<◌, ◌+◌, ◌⊎◌, List, [], ◌∷◌, ◌++◌, Some, inl, inr, sym, ap, subst, ◌∙◌, arith, length}
use Rattle.core_walk.proofs.Cited.{Literal, Inference, IsAt, same_self, slice_get, slice_get_within}
use Rattle.std.proofs.lemmas.List.{length_push}
use Rattle.qbf_core.specs.Sets.{HasMembersOf}
use Rattle.lists.proofs.PushedItems.{pushed_cases}
use Rattle.core_walk.specs.DistinctLits.{AreKept, HasMembersAt, IsKeptAt}
use Rattle.core_walk.specs.declared.distinct_lits.DistinctLits.{DistinctLits}

-- literals that are lent as they are written have the members of the step
pub written_members : (steps : List Inference) (p : ℕ) (lits : List Literal) → ((step : Inference) → IsAt steps p step → lits ≡ step.lits)
    → HasMembersAt steps p lits
written_members steps p lits is step here = subst (λ (z : List Literal). HasMembersOf lits z) (is step here) (same_self lits)

-- no list is added
pub still_kept : (steps : List Inference) (old new : DistinctLits) → new.positions.items ≡ old.positions.items
    → new.lists.whole ≡ old.lists.whole → AreKept steps old → AreKept steps new
still_kept steps old new e f are = record {
  count = ap length e ∙ are.count ∙ sym (ap length f);
  same = λ p lits is. are.same p lits (record {
    index = is.index;
    place = subst (λ (xs : List ℕ). slice_get xs is.index ≡ Some p) e is.place;
    list = subst (λ (xs : List (List Literal)). slice_get xs is.index ≡ Some lits) f is.list;
  });
}

-- one list is added, which has the members of the step
pub kept_more : (steps : List Inference) (old new : DistinctLits) (p : ℕ) (list lits : List Literal)
    → new.positions.items ≡ old.positions.items ++ p ∷ [] → new.lists.whole ≡ old.lists.whole ++ list ∷ []
    → HasMembersOf list lits → HasMembersAt steps p lits → AreKept steps old → AreKept steps new
kept_more steps old new p list lits e f same own are = record {
  count =
      let i : length (old.positions.items ++ p ∷ []) ≡ length old.positions.items + 1 = length_push old.positions.items p in
      let j : length (old.lists.whole ++ list ∷ []) ≡ length old.lists.whole + 1 = length_push old.lists.whole list in
      let both : length old.positions.items ≡ length old.lists.whole = are.count in
      rw e (rw f (omega (arith, i, j, both)));
  same = λ q found is step here.
      let both : length old.positions.items ≡ length old.lists.whole = are.count in
      elim (pushed_cases old.positions.items p is.index q (subst (λ (xs : List ℕ). slice_get xs is.index ≡ Some q) e is.place)) [
        | inl place ↦ elim (of_lists q found is) [
          | inl there ↦ are.same q found (record { index = is.index; place = place; list = there }) step here
          | inr (last, _) ↦
              let less : is.index < length old.positions.items = slice_get_within old.positions.items is.index q place in
              absurd (omega (arith, both, last, less))
        ]
        | inr (last, at) ↦ elim (of_lists q found is) [
          | inl there ↦
              let less : is.index < length old.lists.whole = slice_get_within old.lists.whole is.index found there in
              absurd (omega (arith, both, last, less))
          | inr (_, new_list) ↦
              let of_step : HasMembersOf lits step.lits = own step (subst (λ (k : ℕ). IsAt steps k step) at here) in
              subst (λ (z : List Literal). HasMembersOf z step.lits) (sym new_list)
              ((λ l h. of_step.0 l (same.0 l h)), (λ l h. same.1 l (of_step.1 l h)))
        ]
      ];
}
  where
    of_lists : (q : ℕ) (found : List Literal) (is : IsKeptAt new q found)
        → (slice_get old.lists.whole is.index ≡ Some found) ⊎ ((is.index ≡ length old.lists.whole) × (found ≡ list))
    of_lists q found is =
        pushed_cases old.lists.whole list is.index found
        (subst (λ (xs : List (List Literal)). slice_get xs is.index ≡ Some found) f is.list)
