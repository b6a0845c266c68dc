-- Steps at their positions and by their numbers.
use Rattle.core_walk.proofs.Cited.{subst, ◌≡◌, ℕ, List, [], ◌∷◌, Some, inl, inr, refl, sym, ap, ◌∙◌, take, Inference, lits_of, IsNumberOf}
use Rattle.core_walk.proofs.Cited.{slice_get, ◌∈◌, IsAt, Needs, in_take}
use Rattle.std.proofs.lemmas.Bool.Decides.{eqb_tells}

pub one_at : {A : Type 0} (xs : List A) (i : ℕ) (x y : A) → slice_get xs i ≡ Some x → slice_get xs i ≡ Some y → x ≡ y
one_at xs i x y p q = let e : Some x ≡ Some y = sym p ∙ q in cc e

pub step_named : (steps : List Inference) (n : ℕ) → IsNumberOf steps n
    → (s : Inference) × (s ∈ steps) × (s.number ≡ n) × (s.lits ≡ lits_of steps n)
step_named [] n (s, h, is) = absurd h
step_named (x ∷ steps) n (s, h, is) = elim (eqb_tells x.number n) [
  | inl (t, e) ↦ (x, inl refl, e, rw t refl)
  | inr (f, ne) ↦ elim h [
    | inl same ↦ absurd (ne (let g : Inference → ℕ = λ y. y.number in sym (ap g same) ∙ is))
    | inr k ↦ (let w = step_named steps n (s, k, is) in (w.0, inr w.1, w.2, rw f w.3))
  ]
]

-- the step that one names by a number, at its place
pub need_of : (steps : List Inference) (i : ℕ) (above : Inference) (n : ℕ) → IsAt steps i above → n ∈ above.ants → IsNumberOf (take i steps) n
    → (j : ℕ) × (needs : Needs steps i j) × (needs.below.number ≡ n) × (needs.below.lits ≡ lits_of (take i steps) n)
need_of steps i above n here h has =
    let w = step_named (take i steps) n has in
    let p = in_take steps i w.0 w.1 in
    let named_so : w.0.number ∈ above.ants = subst (λ (k : ℕ). k ∈ above.ants) (sym w.2) h in
    (p.0, record { before = p.1; above = above; at_above = here; below = w.0; at_below = p.2; named = named_so }, w.2, w.3)
