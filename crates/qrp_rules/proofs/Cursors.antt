-- Walks over ordered lists side by side.
use Rattle.qrp_rules.proofs.Cited.{◌≡◌, ◌<◌, ◌≤◌, ◌+◌, ℕ, suc, zero, List, [], ◌∷◌, length, get_or, drop, Bool, ◌↔◌, IsTrue, rules}
use Rattle.qrp_rules.proofs.Cited.{slice_get, Some, refl, sym, subst, ◌∙◌, inl, inr, arith, Literal, ◌∈◌, ◌⊆◌, IsOrdered, lit_test}
use Rattle.qrp_rules.proofs.Cited.{drop_more}
use Rattle.std.proofs.Common.{eqb, ◌&&◌}
use mathlib.Core.Bool.{beq}
use Rattle.qbf_core.proofs.Members.{lit_test_same}

-- v is the variable of a literal of the list
abbrev pub HasVar : List Literal → ℕ → Type 0
HasVar lits v = (l : Literal) × (l ∈ lits) × (l.var ≡ v)

-- the rest of a whole list holds all of its literals from the first variable on that is still to come
pub record Reaches (whole rest : List Literal) (coming : ℕ → Type 0) : Type 0 where
  pub ordered : IsOrdered rest
  pub within : rest ⊆ whole
  pub kept : (v : ℕ) (m : Literal) → coming v → v ≤ m.var → m ∈ whole → m ∈ rest

-- the rest of a list from a position on
in_drop : (xs : List Literal) (i : ℕ) (x : Literal) → i < length xs → x ≡ get_or xs i x → x ∈ drop i xs
in_drop xs i x less e = subst (λ (ys : List Literal). x ∈ ys) (sym (drop_more xs i x less)) (inl e)

drop_back : (xs : List Literal) (i : ℕ) (x : Literal) → i < length xs → x ∈ drop (i + 1) xs → x ∈ drop i xs
drop_back xs i x less h = subst (λ (ys : List Literal). x ∈ ys) (sym (drop_more xs i x less)) (inr h)

ordered_drop : (xs : List Literal) (i : ℕ) → IsOrdered xs → IsOrdered (drop i xs)
ordered_drop xs zero o = o
ordered_drop [] (suc i) o = tt
ordered_drop (y ∷ xs) (suc i) o = ordered_drop xs i o.1

drop_later : (xs : List Literal) (i : ℕ) (x l : Literal) → IsOrdered xs → i < length xs → x ≡ get_or xs i x → l ∈ drop (i + 1) xs
    → x.var < l.var
drop_later xs i x l o less e h = subst (λ (z : Literal). z.var < l.var) (sym e)
    ((subst IsOrdered (drop_more xs i x less) (ordered_drop xs i o)).0 l h)

-- a list that is walked beside another, after one more literal
pub reach_more : (whole rest rest' part : List Literal) (i v : ℕ) (x : Literal) → IsOrdered part → i < length part → x ≡ get_or part i x
    → Reaches whole rest (HasVar (drop i part)) → IsOrdered rest' → ((m : Literal) → m ∈ rest' → m ∈ rest) → v ≡ x.var
    → ((m : Literal) → m ∈ rest → v ≤ m.var → m ∈ rest')
    → Reaches whole rest' (HasVar (drop (i + 1) part))
reach_more whole rest rest' part i v x o less e r o' within is kept = record {
  ordered = o';
  within = λ m h. r.within m (within m h);
  kept = λ n m l le h.
      let lt : x.var < l.0.var = drop_later part i x l.0 o less e l.1 in
      let same : l.0.var ≡ n = l.2 in
      let k : m ∈ rest = r.kept n m (l.0, drop_back part i l.0 less l.1, l.2) le h in
      kept m k (omega arith);
}

-- a literal of the variable at the position is in the rest if it is in the whole
pub reach_in : (whole rest part : List Literal) (i : ℕ) (x y : Literal) → i < length part → x ≡ get_or part i x
    → Reaches whole rest (HasVar (drop i part)) → y.var ≡ x.var → y ∈ whole → y ∈ rest
reach_in whole rest part i x y less e r is h = r.kept x.var y (x, in_drop part i x less e, refl) (omega arith) h

-- the first of an ordered list
pub first_least : (first : Literal) (others : List Literal) (v : ℕ) (m : Literal) → v ≤ first.var → IsOrdered (first ∷ others)
    → m ∈ (first ∷ others) → v ≤ m.var
first_least first others v m le o w = search rules

pub rest_keeps : (first : Literal) (others : List Literal) (v : ℕ) (m : Literal) → first.var < v → v ≤ m.var → m ∈ (first ∷ others)
    → m ∈ others
rest_keeps first others v m lt le w = search rules

-- the test of the first literal of an ordered list whose variables are no earlier
pub first_is : (xs : List Literal) (l first : Literal) → slice_get xs 0 ≡ Some first → IsOrdered xs → ((m : Literal) → m ∈ xs
    → l.var ≤ m.var) → (t : Bool) → t ≡ (eqb first.var l.var && beq first.negative l.negative) → IsTrue t ↔ (l ∈ xs)
first_is [] l first e o later t is = cc e
first_is (x ∷ xs) l first e o later t is =
    let same : x ≡ first = cc e in (
      (λ yes. inl (sym (same ∙ lit_test first l (sym is ∙ yes)))),
      (λ h. elim h [
        | inl k ↦ search (rules, lit_test_same)
        | inr k ↦ (let lt : x.var < l.var = o.0 l k in let le : l.var ≤ x.var = later x (inl refl) in absurd (omega arith))
      ]),
    )
