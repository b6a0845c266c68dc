-- A trimmed trace is trimmed to itself.
use Rattle.trace_check.proofs.Cited.{rules, ◌≡◌, ℕ, zero, suc, ◌<◌, List, [], ◌∷◌, inl, inr, refl, sym, ap, ◌∙◌, subst, length, Some, arith}
use Rattle.trace_check.proofs.Cited.{slice_get, slice_get_within, slice_get_cases, cases_order, Inference, IsAt, IsInCore, ListsCore}
use Rattle.trace_check.proofs.Cited.{steps_at, Derivation, own_numbers, side_of}
use Rattle.trace_check.specs.Laws.{TrimmedIsFixed}
use Rattle.core_walk.proofs.Marking.{core_within}
use Rattle.trace_check.proofs.TrimKeeps.{steps_keep, at_place, place_of}

-- lists with the same steps at the same positions
same_steps : (a b : List Inference) → ((k : ℕ) (s : Inference) → IsAt a k s → IsAt b k s)
    → ((k : ℕ) (s : Inference) → IsAt b k s → IsAt a k s) → a ≡ b
same_steps [] [] f g = refl
same_steps [] (y ∷ b) f g = (let h = g 0 y refl in cc h)
same_steps (x ∷ a) [] f g = (let h = f 0 x refl in cc h)
same_steps (x ∷ a) (y ∷ b) f g =
    let head : x ≡ y = (let h = f 0 x refl in cc h) in
    let tail : a ≡ b = same_steps a b (λ k s h. f (suc k) s h) (λ k s h. g (suc k) s h) in
    ap (λ z. z ∷ a) head ∙ ap (λ r. y ∷ r) tail

module _ (steps : List Inference) (core : List ℕ) (lists : ListsCore steps core) (all : (k : ℕ) → k < length steps → IsInCore steps k) where
  -- if all are needed, each stands at its own position
  own_place : (n k : ℕ) → k < n → k < length steps → slice_get core k ≡ Some k
  own_place zero k less inside = absurd (omega arith)
  own_place (suc n) k less inside = by_order (lists.full k (all k inside)) (λ j below. own_place n j (omega arith))
    where
      by_order : (l : ℕ) × (slice_get core l ≡ Some k) → ((j : ℕ) → j < k → j < length steps → slice_get core j ≡ Some j)
          → slice_get core k ≡ Some k
      by_order (l, at_l) earlier = elim (cases_order l k) [
        | inl e ↦ subst (λ x. slice_get core x ≡ Some k) e at_l
        | inr either ↦ elim either [
          | inl h ↦ (let own = earlier l h (omega arith) in let same : l ≡ k = cc (own, at_l) in absurd (omega arith))
          | inr h ↦ elim (slice_get_cases core k).1 [
            | inl (i, _, at_k, _) ↦
                (let small : i < k = lists.rises k l i k at_k at_l h in
                let own = earlier i small (omega arith) in
                absurd (let worse : i < i = lists.rises i k i i own at_k small in omega arith))
            | inr (past, _) ↦ (let within : l < length core = slice_get_within core l k at_l in absurd (omega arith))
          ]
        ]
      ]

  inside : (k i : ℕ) → slice_get core k ≡ Some i → (s : Inference) × IsAt steps i s
  inside k i here = let less = core_within steps i (lists.sound k i here) in
      elim (slice_get_cases steps i).1 [ inl (s, _, is, _) ↦ (s, is) | inr (past, _) ↦ absurd (omega arith) ]

  pub all_at : steps_at steps core ≡ steps
  all_at = same_steps (steps_at steps core) steps
      (λ k s h.
      let w = place_of steps core inside k s h in
      let less : w.0 < length steps = slice_get_within steps w.0 s w.2 in
      let own : slice_get core w.0 ≡ Some w.0 = own_place (suc w.0) w.0 (omega arith) less in
      elim (cases_order k w.0) [
        | inl e ↦ subst (λ x. IsAt steps x s) (sym e) w.2
        | inr either ↦ search rules
      ])
      (λ k s h. at_place steps core inside k k s (own_place (suc k) k (omega arith) (slice_get_within steps k s h)) h)

pub trimmed_is_fixed : TrimmedIsFixed
trimmed_is_fixed rules f d core again distinct lists proof again_lists =
    let kept = (steps_keep rules (side_of d.result) f d.steps core (own_numbers d.steps distinct) lists proof.derives).1 in
    let same : steps_at (steps_at d.steps core) again ≡ steps_at d.steps core = all_at (steps_at d.steps core) again again_lists kept in
    let g : List Inference → Derivation =
    λ steps. record d { header = record { vars = d.header.vars; steps = length steps }; steps = steps } in
    ap g same
