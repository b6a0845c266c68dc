-- The place of a variable, by a look at each place.
use Rattle.std.proofs.Common.{arith, ◌≡◌, ◌<◌, ◌≤◌, ◌+◌, ℕ, zero, suc, List, [], ◌∷◌, Some, slice_get, ap, inl, inr, subst, length}
use Rattle.std.proofs.lemmas.Option.{slice_get_within}
use Rattle.std.proofs.lemmas.Bool.{cases_order}
use Rattle.qbf_core.specs.Blocks.{variables}
use Rattle.qbf_core.specs.declared.quantifier.Quantifier.{Quantifier}
use Rattle.qbf_core.specs.Members.{◌∈◌}
use Rattle.qbf_core.proofs.Members.{in_got}
use Rattle.qbf_strategy.specs.Assembling.{IsAt}

pub at_place : (ps : List (Quantifier × ℕ)) (i v : ℕ) → slice_get (variables ps) i ≡ Some v → IsAt ps i v
at_place [] i v at = absurd (cc at)
at_place ((q, u) ∷ ps) zero v at = (q, (let e : u ≡ v = cc at in ap (λ (n : ℕ). Some (q, n)) e))
at_place (p ∷ ps) (suc i) v at = at_place ps i v at

pub at_within : (ps : List (Quantifier × ℕ)) (i v : ℕ) → IsAt ps i v → i < length ps
at_within ps i v (q, at) = slice_get_within ps i (q, v) at

pub none_more : (ps : List (Quantifier × ℕ)) (v n : ℕ) → ((i : ℕ) → i < n → IsAt ps i v → ⊥) → (IsAt ps n v → ⊥)
    → (i : ℕ) → i < n + 1 → IsAt ps i v → ⊥
none_more ps v n before here i less at = elim (cases_order i n) [
  | inl same ↦ here (subst (λ (m : ℕ). IsAt ps m v) same at)
  | inr (inl earlier) ↦ before i earlier at
  | inr (inr later) ↦ absurd (omega (arith, less, later))
]

pub none_there : (ps : List (Quantifier × ℕ)) (v n : ℕ) → length ps ≤ n → ((i : ℕ) → i < n → IsAt ps i v → ⊥) → v ∈ variables ps → ⊥
none_there ps v n all none h =
    let w = in_got (variables ps) v h in
    let at = at_place ps w.0 v w.1 in
    let within = at_within ps w.0 v at in none w.0 (omega (arith, all, within)) at
