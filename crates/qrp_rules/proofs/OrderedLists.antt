-- Ordered lists: their beginnings, and their lengths.
use Rattle.qrp_rules.proofs.Cited.{◌≡◌, ◌<◌, ◌≤◌, ◌+◌, ℕ, List, [], ◌∷◌, ◌++◌, length, get_or, take, refl, sym, subst, ◌∙◌, inl, inr, rules}
use Rattle.qrp_rules.proofs.Cited.{arith, Literal, ◌∈◌, ◌⊆◌, IsOrdered, ordered_push}
use Rattle.std.proofs.lemmas.List.{take_more}

-- one more literal above those so far
pub ordered_taken : (xs : List Literal) (i : ℕ) (x : Literal) → i < length xs → x ≡ get_or xs i x → IsOrdered (take i xs)
    → ((m : Literal) → m ∈ take i xs → m.var < x.var) → IsOrdered (take (i + 1) xs)
ordered_taken xs i x less e o below =
    let more : take (i + 1) xs ≡ take i xs ++ x ∷ [] = search (rules, take_more) in
    subst IsOrdered (sym more) (ordered_push (take i xs) x o below)

-- an ordered list in another is no longer than that, and is all of it if it is as long
first_out : (t f m : Literal) (ts fs : List Literal) → IsOrdered (t ∷ ts) → IsOrdered (f ∷ fs) → t ∈ fs → m ∈ (t ∷ ts) → m ∈ (f ∷ fs)
    → m ∈ fs
first_out t f m ts fs o p h k w = search rules

rest_in : (t f : Literal) (ts fs : List Literal) → IsOrdered (t ∷ ts) → t ≡ f → (t ∷ ts) ⊆ (f ∷ fs) → ts ⊆ fs
rest_in t f ts fs o e sub m h = search rules

ordered_shorter : (to from : List Literal) → IsOrdered to → IsOrdered from → to ⊆ from → length to ≤ length from
ordered_shorter [] from o p sub = omega arith
ordered_shorter (t ∷ ts) [] o p sub = absurd (sub t (inl refl))
ordered_shorter (t ∷ ts) (f ∷ fs) o p sub = elim (sub t (inl refl)) [
  | inl e ↦ (let le : length ts ≤ length fs = ordered_shorter ts fs o.1 p.1 (rest_in t f ts fs o e sub) in omega (arith, le))
  | inr h ↦ search (rules, first_out, ordered_shorter (t ∷ ts) fs o p.1 (λ m k. first_out t f m ts fs o p h k (sub m k)))
]

pub ordered_whole : (to from : List Literal) → IsOrdered to → IsOrdered from → to ⊆ from → length from ≤ length to → from ⊆ to
ordered_whole [] [] o p sub long m h = h
ordered_whole [] (f ∷ fs) o p sub long m h = absurd (omega (arith, long))
ordered_whole (t ∷ ts) [] o p sub long m h = absurd h
ordered_whole (t ∷ ts) (f ∷ fs) o p sub long m h = elim (sub t (inl refl)) [
  | inl e ↦ elim h [
    | inl g ↦ inl (g ∙ sym e)
    | inr k ↦ inr (ordered_whole ts fs o.1 p.1 (rest_in t f ts fs o e sub) (omega (arith, long)) m k)
  ]
  | inr k ↦ (let le : length (t ∷ ts) ≤ length fs = ordered_shorter (t ∷ ts) fs o p.1 (λ n j. first_out t f n ts fs o p k j (sub n j)) in
      absurd (omega (arith, le, long)))
]
