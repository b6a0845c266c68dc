-- Steps that are written exactly as they follow: what the walk over them shows.
use Rattle.qrp_rules.proofs.Cited.{◌≡◌, ◌<◌, ◌≤◌, ◌+◌, ℕ, List, ◌∷◌, ◌++◌, ◌⊎◌, length, get_or, take, drop, slice_get, Some, refl, sym, ap}
use Rattle.qrp_rules.proofs.Cited.{subst, ◌∙◌, inl, inr, arith, cases_eq, Literal, ◌∈◌, ◌⊆◌, in_take_all, in_take_more, take_more_in}
use Rattle.qrp_rules.proofs.Cited.{take_within, drop_more, take-append-drop, slice_get_within, get_or_from_slice_get}
use Rattle.written_steps.proofs.Cited.{IsNext}

-- ---- one literal more

pub got_at : (xs : List Literal) (i : ℕ) (x : Literal) → slice_get xs i ≡ Some x → (i < length xs) × (x ≡ get_or xs i x)
got_at xs i x e = (slice_get_within xs i x e, sym (get_or_from_slice_get xs i x x e))

pub pass_in : (xs : List Literal) (i next : ℕ) (x m : Literal) → IsNext xs i x next → m ∈ take next xs → (m ∈ take i xs) ⊎ (m ≡ x)
pass_in xs i next x m (inl (e, g)) h = let w = got_at xs i x g in in_take_more xs i x m w.0 w.1 (subst (λ (n : ℕ). m ∈ take n xs) e h)
pass_in xs i next x m (inr e) h = inl (subst (λ (n : ℕ). m ∈ take n xs) e h)

pub in_pass : (xs : List Literal) (i next : ℕ) (x m : Literal) → IsNext xs i x next → m ∈ take i xs → m ∈ take next xs
in_pass xs i next x m (inl (e, g)) h = let w = got_at xs i x g in
    subst (λ (n : ℕ). m ∈ take n xs) (sym e) (take_more_in xs i x m w.0 w.1 (inl h))
in_pass xs i next x m (inr e) h = subst (λ (n : ℕ). m ∈ take n xs) (sym e) h

pub pass_takes : (xs : List Literal) (i next : ℕ) (x : Literal) → IsNext xs i x next → (next ≡ i → ⊥) → x ∈ take next xs
pass_takes xs i next x (inl (e, g)) moved = let w = got_at xs i x g in
    subst (λ (n : ℕ). x ∈ take n xs) (sym e) (take_more_in xs i x x w.0 w.1 (inr refl))
pass_takes xs i next x (inr e) moved = absurd (moved e)

pub pass_inside : (xs : List Literal) (i next : ℕ) (x : Literal) → IsNext xs i x next → i ≤ length xs → next ≤ length xs
pass_inside xs i next x (inl (e, g)) le = let w = got_at xs i x g in let less : i < length xs = w.0 in omega arith
pass_inside xs i next x (inr e) le = omega arith

-- ---- the same of whole lists

pub split_at : (xs : List Literal) (i : ℕ) (x : Literal) → slice_get xs i ≡ Some x → take i xs ++ x ∷ drop (i + 1) xs ≡ xs
split_at xs i x e =
    let w = got_at xs i x e in
    let more : drop i xs ≡ x ∷ drop (i + 1) xs = drop_more xs i x w.0 ∙ ap (λ (z : Literal). z ∷ drop (i + 1) xs) (sym w.1) in
    ap (λ (ys : List Literal). take i xs ++ ys) (sym more) ∙ take-append-drop i xs

-- ---- the rest of one list

-- the beginning of `to` is that of `from` without some literals that may be left out
pub record IsRestSoFar (May : Literal → Type 0) (from to : List Literal) (i k : ℕ) : Type 0 where
  pub inside : k ≤ length to
  pub within : take k to ⊆ take i from
  pub each : (m : Literal) → m ∈ take i from → (m ∈ take k to) ⊎ May m

module _ (May : Literal → Type 0) (from to : List Literal) (i k next : ℕ) (x : Literal) (less : i < length from)
    (e : x ≡ get_or from i x) (p : IsNext to k x next) (may : next ≡ k → May x) (u : IsRestSoFar May from to i k) where
  here : (x ∈ take next to) ⊎ May x
  here = elim (cases_eq next k) [ inl same ↦ inr (may same) | inr ne ↦ inl (pass_takes to k next x p ne) ]

  pub rest_more : IsRestSoFar May from to (i + 1) next
  rest_more = record {
    inside = pass_inside to k next x p u.inside;
    within = λ l h. take_more_in from i x l less e (elim (pass_in to k next x l p h) [ inl r ↦ inl (u.within l r) | inr f ↦ inr f ]);
    each = λ l h. elim (in_take_more from i x l less e h) [
      | inl r ↦ elim (u.each l r) [ inl w ↦ inl (in_pass to k next x l p w) | inr s ↦ inr s ]
      | inr f ↦ subst (λ (z : Literal). (z ∈ take next to) ⊎ May z) (sym f) here
    ];
  }

pub rest_within : (May : Literal → Type 0) (from to : List Literal) (i k : ℕ) → k ≡ length to → IsRestSoFar May from to i k → to ⊆ from
rest_within May from to i k e u l h = take_within from i l (u.within l (in_take_all to k l (omega arith) h))
