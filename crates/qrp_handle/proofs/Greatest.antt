-- The greatest variable that is bound.
use Rattle.std.proofs.Common.{◌≡◌, ◌≤◌, ◌+◌, ℕ, max, List, [], ◌∷◌, Some, drop, slice_get, ap, arith}
use Rattle.std.specs.List.{AllByRecursion}
use Rattle.qbf_core.specs.Blocks.{variables}
use Rattle.qbf_core.specs.declared.quantifier.Quantifier.{Quantifier}
use Rattle.qbf_text.proofs.SentParts.{drop_at}
use Rattle.qrp_handle.specs.Texts.{greatest}

-- one more variable is seen
pub next_greatest : (ps : List (Quantifier × ℕ)) (i : ℕ) (q : Quantifier) (v most : ℕ) → slice_get ps i ≡ Some (q, v)
    → max most (greatest (variables (drop i ps))) ≡ greatest (variables ps)
    → max (max v most) (greatest (variables (drop (i + 1) ps))) ≡ greatest (variables ps)
next_greatest ps i q v most at whole =
    let e : greatest (variables (drop i ps)) ≡ max v (greatest (variables (drop (i + 1) ps))) =
    ap (λ (rest : List (Quantifier × ℕ)). greatest (variables rest)) (drop_at ps i (q, v) at) in
    omega (arith, e, whole)

below : (ns : List ℕ) (top : ℕ) → greatest ns ≤ top → AllByRecursion (λ n. n ≤ top) ns
below [] top h = tt
below (n ∷ ns) top h = (omega (arith, h), below ns top (omega (arith, h)))

-- no number is above the greatest
pub all_up_to : (ns : List ℕ) (top : ℕ) → top ≡ greatest ns → AllByRecursion (λ n. n ≤ top) ns
all_up_to ns top e = below ns top (omega (arith, e))
