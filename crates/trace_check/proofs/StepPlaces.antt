-- The last step without literals.
use Rattle.trace_check.proofs.Cited.{◌≡◌, ℕ, ◌<◌, ◌≤◌, true, List, [], ◌∷◌, refl, sym, ◌∙◌, length}
use Rattle.trace_check.proofs.Cited.{false≢true, Inference, IsAt, IsGoal, at_place}
use Rattle.std.proofs.Common.{eqb}
use Rattle.std.proofs.Math.Dec.{eqb-suc-zero}

pub empty_of : {A : Type 0} (xs : List A) → eqb (length xs) 0 ≡ true → xs ≡ []
empty_of [] e = refl
empty_of (x ∷ xs) e = absurd (false≢true (sym (eqb-suc-zero (length xs)) ∙ e))

pub goal_here : (steps : List Inference) (i : ℕ) → i < length steps → ((step : Inference) → IsAt steps i step → step.lits ≡ [])
    → ((j : ℕ) (step : Inference) → IsAt steps j step → step.lits ≡ [] → j ≤ i) → IsGoal steps i
goal_here steps i less empty last =
    let s = at_place steps i less in
    record { step = s.0; here = s.1; empty = empty s.0 s.1; last = last }
