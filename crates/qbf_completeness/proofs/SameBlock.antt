-- Variables of one block have one quantifier, so one of the other quantifier that stands no later stands in an earlier block.
use Rattle.qbf_core.proofs.Cited.{arith, ◌≡◌, ◌≤◌, ℕ, List, [], ◌∷◌, ◌++◌, Option, Some, inl, inr, refl, sym, ap, ◌∙◌, subst, map, slice_get}
use Rattle.qbf_core.proofs.Cited.{◌∈◌, Block, pairs, variables, block_in, Side, reduced_quantifier, deciding_quantifier, option_map}
use Rattle.qbf_core.specs.declared.quantifier.Quantifier.{Quantifier}
use Rattle.qbf_core.specs.Blocks.{pairs_of_block, IsBefore}
use Rattle.qbf_core.proofs.Bound.{block, block_found, in_bound, pair_var, Distinct}
use Rattle.qbf_core.proofs.Game.{not_both}
use Rattle.qbf_core.proofs.Leaves.{any_in, any_out, pair_vars, apart_right, apart_across}
use Rattle.qbf_core.proofs.Members.{in_append}

of_block : (q : Quantifier) (vs : List ℕ) (p : Quantifier) (v : ℕ) → ◌∈◌ {A = Quantifier × ℕ} (p, v) (map (λ w. (q, w)) vs)
    → (p ≡ q) × (v ∈ vs)
of_block q [] p v h = absurd h
of_block q (w ∷ vs) p v (inl e) =
    let quantifier_of : Quantifier × ℕ → Quantifier = λ a. a.0 in
    let var_of : Quantifier × ℕ → ℕ = λ a. a.1 in
    (ap quantifier_of e, inl (ap var_of e))
of_block q (w ∷ vs) p v (inr h) = let r = of_block q vs p v h in (r.0, inr r.1)

-- the quantifier of a block, by its place
quantifier_at : List Block → ℕ → Option Quantifier
quantifier_at bs i = option_map (λ b. b.quantifier) (slice_get bs i)

quantifier_there : (bs : List Block) (q : Quantifier) (v : ℕ) → Distinct (variables (pairs bs)) → (q, v) ∈ pairs bs
    → quantifier_at bs (block bs v) ≡ Some q
unfolding quantifier_at
quantifier_there [] q v d h = absurd h
quantifier_there (b ∷ bs) q v d h =
    let apart : Distinct (b.vars ++ variables (pairs bs)) = subst (λ vs. Distinct vs) (pair_vars b.quantifier b.vars (pairs bs)) d in
    let some : Quantifier → Option Quantifier = λ p. Some p in
    elim (in_append (pairs_of_block b) (pairs bs) (q, v) h) [
      | inl r ↦ (let w = of_block b.quantifier b.vars q v r in rw (any_in v b.vars w.1) (ap some (sym w.0)))
      | inr s ↦ rw (any_out v b.vars (λ m. apart_across b.vars (variables (pairs bs)) v apart m (pair_var (pairs bs) q v s)))
          (quantifier_there bs q v (apart_right b.vars (variables (pairs bs)) apart) s)
    ]

pub stands_before : (side : Side) (bs : List Block) (v w : ℕ) → Distinct (variables (pairs bs)) → (deciding_quantifier side, v) ∈ pairs bs
    → (reduced_quantifier side, w) ∈ pairs bs → block bs v ≤ block bs w → IsBefore bs v w
stands_before side bs v w apart theirs mine low i j at_i at_j =
    let found_v : block_in v bs ≡ Some (block bs v) = block_found bs v (in_bound (pairs bs) (deciding_quantifier side) v theirs) in
    let found_w : block_in w bs ≡ Some (block bs w) = block_found bs w (in_bound (pairs bs) (reduced_quantifier side) w mine) in
    let i_is : i ≡ block bs v = cc (at_i, found_v) in
    let j_is : j ≡ block bs w = cc (at_j, found_w) in
    let other : block bs v ≡ block bs w → ⊥ = λ e.
    let one : Some (deciding_quantifier side) ≡ Some (reduced_quantifier side) =
    sym (quantifier_there bs (deciding_quantifier side) v apart theirs) ∙ (ap (quantifier_at bs) e
    ∙ quantifier_there bs (reduced_quantifier side) w apart mine) in
    not_both side (deciding_quantifier side) (cc one) refl in
    omega (arith, i_is, j_is, other, low)
