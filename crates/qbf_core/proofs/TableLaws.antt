-- The table of a prefix, beside its entries.
use Rattle.qbf_core.proofs.Cited.{rules, common_steps, ◌≡◌, ℕ, zero, suc, ◌≤◌, ◌<◌, Bool, true, false, cond, List, [], ◌∷◌, ◌++◌, length}
use Rattle.qbf_core.proofs.Cited.{Option, Some, None, ◌⊎◌, inr, refl, ap, sym, subst, arith, slice_get, get_or, take, drop}
use Rattle.qbf_core.proofs.Cited.{nat_eq, lookup, keys_of, AllByRecursion, eq-eqb, slice_get_within, slice_get_read, Place, IsVariable}
use Rattle.qbf_core.proofs.Cited.{IsTable, IsBeyond, IsIndexOf, IsDistinct, FitsTable}
use Rattle.std.proofs.Common.{if◌then◌else◌, slice_set}
use Rattle.std.specs.Prelude.{IfSome}
use Rattle.std.proofs.lemmas.Bool.{ne_eqb}
use Rattle.lists.proofs.PushedItems.{pushed_cases}

-- a list after all of it was lent as a slice
pub written_back : {X : Type 0} (n : ℕ) (new old : List X) → n ≡ length old → length new ≡ length old
    → take n (new ++ drop (length new) old) ≡ new
written_back n new old e f = grind (arith, common_steps)

-- the item at a place after a write
set_cases : {X : Type 0} (xs : List X) (i n : ℕ) (x o : X) → slice_get (slice_set xs i x) n ≡ Some o
    → ((n ≡ i) × (o ≡ x)) ⊎ ((n ≡ i → ⊥) × (slice_get xs n ≡ Some o))
set_cases [] i n x o e = absurd cc
set_cases (y ∷ xs) zero n x o e = grind (arith, common_steps)
set_cases (y ∷ xs) (suc i) zero x o e = inr (λ d. absurd (omega (arith, d)), e)
set_cases (y ∷ xs) (suc i) (suc n) x o e = grind (arith, common_steps, set_cases xs i n x o e)

lookup_new : (v : ℕ) (p : Place) (es : List (ℕ × Place)) → lookup (nat_eq v) es ≡ None → lookup (nat_eq v) (es ++ (v, p) ∷ []) ≡ Some p
lookup_new v p [] none = rw (eq-eqb v v refl) refl
lookup_new v p (e ∷ es) none = grind (arith, common_steps, lookup_new v p es)

lookup_other : (n v : ℕ) (p : Place) (es : List (ℕ × Place)) → nat_eq n v ≡ false
    → lookup (nat_eq n) (es ++ (v, p) ∷ []) ≡ lookup (nat_eq n) es
lookup_other n v p [] differs = rw differs refl
lookup_other n v p (e ∷ es) differs = ap (λ (o : Option Place). cond (nat_eq n e.0) (Some e.1) o) (lookup_other n v p es differs)

-- a number that no variable has is not among the entries
pub lookup_outside : (n : ℕ) (es : List (ℕ × Place)) → AllByRecursion FitsTable es → (IsVariable n → ⊥) → lookup (nat_eq n) es ≡ None
lookup_outside n [] h out = refl
lookup_outside n (e ∷ es) h out = rw (ne_eqb n e.0 (λ same. out (subst IsVariable (sym same) h.0.0))) (lookup_outside n es h.1 out)

-- and an entry that is found there can be packed
pub lookup_fits : (n : ℕ) (es : List (ℕ × Place)) → AllByRecursion FitsTable es → IfSome (lookup (nat_eq n) es) (λ p. p.block < 2147483647)
lookup_fits n [] h = tt
lookup_fits n (e ∷ es) h = grind (arith, common_steps, lookup_fits n es h.1, h.0.1)

module _ (table : List (Option Place)) (es : List (ℕ × Place)) (is : IsTable table es) where
  -- one more entry, of the next number
  pub table_pushed : (slot : Option Place) → slot ≡ lookup (nat_eq (length table)) es → IsTable (table ++ slot ∷ []) es
  table_pushed slot here = search (rules, pushed_cases)

  -- a new variable that the table reaches
  pub table_noted : (v : ℕ) (p : Place) → lookup (nat_eq v) es ≡ None → IsTable (slice_set table v (Some p)) (es ++ (v, p) ∷ [])
  table_noted v p none = search (rules, set_cases, lookup_new, lookup_other)

  -- and one that it does not reach
  pub table_short : (v : ℕ) (p : Place) → length table ≤ v → IsTable table (es ++ (v, p) ∷ [])
  table_short v p short = grind (arith, common_steps, slice_get_within, lookup_other, ne_eqb)

  -- an entry that is read
  pub slot_found : (read : List (Option Place)) (v n : ℕ) (slot : Option Place) → read ≡ table → n ≡ v → n < length read
      → slot ≡ get_or read n slot → slot ≡ lookup (nat_eq v) es
  slot_found read v n slot same number less at = search (rules, slice_get_read)

-- one more entry of the table, which was in the map before, or none if it is refused
pub index_grown : (table : List (Option Place)) (far : List (ℕ × Place)) (given : Bool) (slot : Option Place)
    → slot ≡ lookup (nat_eq (length table)) far
    → (es : List (ℕ × Place)) → IsIndexOf table far es → IsIndexOf (if given then table ++ slot ∷ [] else table) far es
index_grown table far given slot here es index = grind (arith, common_steps, table_pushed)

-- a new variable that the table reaches, and one that it does not reach
pub beyond_noted : (reached : ℕ) (far es : List (ℕ × Place)) (v : ℕ) (p : Place) → v < reached
    → IsBeyond reached far es → IsBeyond reached far (es ++ (v, p) ∷ [])
beyond_noted reached far es v p less index n long = grind (arith, common_steps, lookup_other)

-- a new variable of the number at which the table ends
pub index_appended : (table : List (Option Place)) (far es : List (ℕ × Place)) (v : ℕ) (p : Place) → v ≡ length table
    → lookup (nat_eq v) es ≡ None → IsIndexOf table far es → IsIndexOf (table ++ Some p ∷ []) far (es ++ (v, p) ∷ [])
index_appended table far es v p here none index =
    let more : length (table ++ Some p ∷ []) ≡ suc (length table) = grind (arith, common_steps) in
    let last : lookup (nat_eq (length table)) (es ++ (v, p) ∷ []) ≡ Some p =
    subst (λ (n : ℕ). lookup (nat_eq n) (es ++ (v, p) ∷ []) ≡ Some p) here (lookup_new v p es none) in (
      table_pushed table (es ++ (v, p) ∷ []) (table_short table es index.0 v p (omega (arith, here))) (Some p) (sym last),
      beyond_noted (length (table ++ Some p ∷ [])) far es v p (omega (arith, here, more))
          (λ n long. index.1 n (omega (arith, long, more))),
    )

pub beyond_added : (reached : ℕ) (far es : List (ℕ × Place)) (v : ℕ) (p : Place) → lookup (nat_eq v) far ≡ None
    → lookup (nat_eq v) es ≡ None
    → IsBeyond reached far es → IsBeyond reached (far ++ (v, p) ∷ []) (es ++ (v, p) ∷ [])
beyond_added reached far es v p out none index n long = grind (arith, common_steps, lookup_new, lookup_other, ne_eqb)

-- a new variable keeps them distinct
pub distinct_push : (es : List (ℕ × Place)) (v : ℕ) (p : Place) → lookup (nat_eq v) es ≡ None → IsDistinct nat_eq (keys_of es)
    → IsDistinct nat_eq (keys_of (es ++ (v, p) ∷ []))
unfolding IsDistinct
distinct_push [] v p none d = (tt, tt)
distinct_push (e ∷ es) v p none d = by (nat_eq v e.0) refl (λ rest. distinct_push es v p rest d.1)
  where
    apart : nat_eq e.0 v ≡ false → (xs : List (ℕ × Place)) → AllByRecursion (λ y. nat_eq e.0 y ≡ false) (keys_of xs)
        → AllByRecursion (λ y. nat_eq e.0 y ≡ false) (keys_of (xs ++ (v, p) ∷ []))
    apart ne [] all = (ne, tt)
    apart ne (x ∷ xs) all = (all.0, apart ne xs all.1)

    flipped : nat_eq v e.0 ≡ false → nat_eq e.0 v ≡ false
    flipped is = ne_eqb e.0 v (λ same. let t : nat_eq v e.0 ≡ true = eq-eqb v e.0 (sym same) in cc (is, t))

    by : (t : Bool) → nat_eq v e.0 ≡ t → (lookup (nat_eq v) es ≡ None → IsDistinct nat_eq (keys_of (es ++ (v, p) ∷ [])))
        → IsDistinct nat_eq (keys_of ((e ∷ es) ++ (v, p) ∷ []))
    by t is more = search (rules, apart, flipped)

-- a number at which the table was read in vain is beyond its end
pub outside : {X : Type 0} (read table : List X) (v n : ℕ) → read ≡ table → n ≡ v → length read ≤ n → length table ≤ v
outside read table v n same number long = omega (arith, ap length same, number, long)
