-- Formulas with few variables have short derivations.
use Rattle.trace_check.proofs.Cited.{◌≡◌, ℕ, zero, suc, ◌+◌, ◌≤◌, ◌⊎◌, List, [], ◌∷◌, inl, inr, refl, length, arith, pairs, Side}
use Rattle.std.proofs.Common.{◌^◌, ◌*◌, cond, pow_mono, pow-suc, pow-add, mul-le-mul}
use Rattle.std.proofs.lemmas.List.{length-map}
use Rattle.qbf_core.proofs.PrefixLaws.{variables_few}
use Rattle.qbf_core.specs.declared.quantifier.Quantifier.{Quantifier}
use Rattle.qbf_core.specs.Blocks.{variables, is_quantifier}
use Rattle.qbf_core.specs.Rules.{reduced_quantifier, deciding_quantifier}
use Rattle.qbf_core.proofs.Game.{who}
use Rattle.qbf_completeness.specs.Laws.{count_of}
use Rattle.qbf_completeness.proofs.Players.{mine_is, theirs_is}
use Rattle.qrp_completeness.specs.Laws.{FewVariablesAreSmall}

-- each variable is of the reduced quantifier or of the deciding one
count_both : (side : Side) (ps : List (Quantifier × ℕ))
    → count_of (reduced_quantifier side) ps + count_of (deciding_quantifier side) ps ≡ length ps
count_both side [] = refl
count_both side ((q, v) ∷ ps) = by (count_of (reduced_quantifier side) ps) (count_of (deciding_quantifier side) ps) (who side q)
    (count_both side ps)
  where
    by : (p d : ℕ) → (q ≡ reduced_quantifier side) ⊎ (q ≡ deciding_quantifier side) → p + d ≡ length ps
        → cond (is_quantifier q (reduced_quantifier side)) (suc p) p + cond (is_quantifier q (deciding_quantifier side)) (suc d) d
        ≡ suc (length ps)
    by p d (inl mine) e = rw ((mine_is side q mine).0, (mine_is side q mine).1) (omega (arith, e))
    by p d (inr theirs) e = rw ((theirs_is side q theirs).0, (theirs_is side q theirs).1) (omega (arith, e))

two_more : (p : ℕ) → 2 + p ≤ 2 ^ suc p
two_more zero = omega arith
two_more (suc p) = omega (arith, two_more p, pow-suc 2 (suc p))

few_in_all : (p d : ℕ) → p + d ≤ 63 → (2 + p) * 2 ^ d ≤ 2 ^ 64
few_in_all p d few =
    let more : (2 + p) * 2 ^ d ≤ 2 ^ suc p * 2 ^ d = mul-le-mul (two_more p) (let same : 2 ^ d ≤ 2 ^ d = omega arith in same) in
    let most : 2 ^ (suc p + d) ≤ 2 ^ 64 = pow_mono (let le : suc p + d ≤ 64 = omega (arith, few) in le) in
    omega (arith, more, most, pow-add 2 (suc p) d)

few_decide : (p d : ℕ) → p + d ≤ 2147483648 → d ≤ 32 → (2 + p) * 2 ^ d ≤ 2 ^ 64
few_decide p d all low =
    let left : 2 + p ≤ 2147483650 = omega (arith, all) in
    let right : 2 ^ d ≤ 2 ^ 32 = pow_mono low in
    let more : (2 + p) * 2 ^ d ≤ 2147483650 * 2 ^ 32 = mul-le-mul left right in
    omega (arith, more)

pub few_variables_are_small : FewVariablesAreSmall
few_variables_are_small f side formed = by (count_of (reduced_quantifier side) (pairs f.blocks))
    (count_of (deciding_quantifier side) (pairs f.blocks)) (count_both side (pairs f.blocks))
  where
    by : (p d : ℕ) → p + d ≡ length (pairs f.blocks)
        → (length (pairs f.blocks) ≤ 63 → (2 + p) * 2 ^ d ≤ 2 ^ 64) × (d ≤ 32 → (2 + p) * 2 ^ d ≤ 2 ^ 64)
    by p d both =
        let few = variables_few (variables (pairs f.blocks)) formed.prefix.distinct formed.prefix.within in
        let all : p + d ≤ 2147483648 = omega (arith, both, few, length-map (pairs f.blocks) (λ (p : Quantifier × ℕ). p.1)) in
        (λ most. few_in_all p d (omega (arith, both, most)), λ low. few_decide p d all low)
