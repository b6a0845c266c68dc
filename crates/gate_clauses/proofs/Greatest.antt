-- The greatest variable that is bound.
use Rattle.std.proofs.Common.{◌≡◌, ◌≤◌, ◌+◌, ◌∙◌, ℕ, max, suc, List, [], ◌∷◌, Some, drop, slice_get, ap, arith, add-one, drop-cons}
use Rattle.std.proofs.lemmas.Option.{get_or_from_slice_get, slice_get_within}
use Rattle.std.specs.List.{AllByRecursion}
use Rattle.qbf_core.specs.Blocks.{variables}
use Rattle.qbf_core.specs.declared.quantifier.Quantifier.{Quantifier}
use Rattle.gate_clauses.specs.Begun.{greatest}

drop_at : {X : Type 0} (xs : List X) (i : ℕ) (x : X) → slice_get xs i ≡ Some x → drop i xs ≡ x ∷ drop (i + 1) xs
drop_at xs i x at =
    let lt = slice_get_within xs i x at in let e = get_or_from_slice_get xs i x x at in
    rw (add-one) (drop-cons xs i x lt ∙ ap (λ y. y ∷ drop (suc i) xs) e)

-- one more variable is seen
pub next_greatest : (ps : List (Quantifier × ℕ)) (i : ℕ) (q : Quantifier) (v most : ℕ) → slice_get ps i ≡ Some (q, v)
    → max most (greatest (variables (drop i ps))) ≡ greatest (variables ps)
    → max (max v most) (greatest (variables (drop (i + 1) ps))) ≡ greatest (variables ps)
next_greatest ps i q v most at whole =
    let e : greatest (variables (drop i ps)) ≡ max v (greatest (variables (drop (i + 1) ps))) =
    ap (λ (rest : List (Quantifier × ℕ)). greatest (variables rest)) (drop_at ps i (q, v) at) in
    omega (arith, e, whole)

below : (ns : List ℕ) (top : ℕ) → greatest ns ≤ top → AllByRecursion (λ n. n ≤ top) ns
below [] top h = tt
below (n ∷ ns) top h = (omega (arith, h), below ns top (omega (arith, h)))

-- no number is above the greatest
pub all_up_to : (ns : List ℕ) (top : ℕ) → top ≡ greatest ns → AllByRecursion (λ n. n ≤ top) ns
all_up_to ns top e = below ns top (omega (arith, e))
