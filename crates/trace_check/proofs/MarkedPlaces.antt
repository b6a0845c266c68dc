-- The marked positions, listed from the first on.
use Rattle.trace_check.proofs.Cited.{◌≡◌, ℕ, ◌+◌, ◌<◌, Bool, List, [], ◌∷◌, ◌++◌, inl, inr, sym, subst, length, IsMarked, ListsMarked}
use Rattle.trace_check.proofs.Cited.{Some, arith, rules, slice_get, slice_get_within, cases_eq}
use Rattle.lists.proofs.PushedItems.{pushed_cases, pushed_old, pushed_new}

pub listing_none : (marks : List Bool) → ListsMarked marks 0 []
listing_none marks = search rules

pub listing_skip : (marks : List Bool) (i : ℕ) (positions : List ℕ) → (IsMarked marks i → ⊥) → ListsMarked marks i positions
    → ListsMarked marks (i + 1) positions
listing_skip marks i positions out listing = record {
  rises = listing.rises;
  sound = λ k a h. let w = listing.sound k a h in ((let less : a < i = w.0 in omega arith), w.1);
  full = search (rules, cases_eq);
}

pub listing_push : (marks : List Bool) (i : ℕ) (positions : List ℕ) → IsMarked marks i → ListsMarked marks i positions
    → ListsMarked marks (i + 1) (positions ++ i ∷ [])
listing_push marks i positions is listing = record {
  rises = λ k l a b h g less. elim (pushed_cases positions i l b g) [
    | inl old ↦ elim (pushed_cases positions i k a h) [
      | inl older ↦ listing.rises k l a b older old less
      | inr (e, _) ↦ absurd (let within : l < length positions = slice_get_within positions l b old in omega arith)
    ]
    | inr (e, f) ↦ elim (pushed_cases positions i k a h) [
      | inl older ↦ (let below : a < i = (listing.sound k a older).0 in omega arith)
      | inr (e2, _) ↦ absurd (omega arith)
    ]
  ];
  sound = λ k a h. elim (pushed_cases positions i k a h) [
    | inl old ↦ (let w = listing.sound k a old in ((let less : a < i = w.0 in omega arith), w.1))
    | inr (_, f) ↦ (omega arith, subst (λ x. IsMarked marks x) (sym f) is)
  ];
  full = λ a less h. elim (cases_eq a i) [
    | inl e ↦ (length positions, subst (λ x. slice_get (positions ++ i ∷ []) (length positions) ≡ Some x) (sym e) (pushed_new positions i))
    | inr ne ↦ (let w = listing.full a (omega arith) h in (w.0, pushed_old positions i w.0 a w.1))
  ];
}
