-- A step without all that is reducible in it.
use Rattle.trace_check.proofs.Cited.{arith, ◌≡◌, ◌<◌, ◌⊎◌, ◌∙◌, ℕ, List, inl, inr, refl, sym, subst, Some, Literal, ◌∈◌, ◌⊆◌, IsClean, Side}
use Rattle.trace_check.proofs.Cited.{cases_order, Qbf, IsBound, pairs}
use Rattle.qbf_core.specs.Blocks.{Binds, IsBefore, block_in, variables}
use Rattle.qbf_core.specs.Literal.{negated}
use Rattle.qbf_core.specs.Rules.{IsReducible, reduced_quantifier, deciding_quantifier}
use Rattle.qbf_core.proofs.Bound.{in_binds, bound_in, block_found, block, Distinct}
use Rattle.qbf_core.proofs.Members.{split_each}
use Rattle.qbf_core.proofs.Game.{who, not_both}
use Rattle.trace_check.specs.Sets.{IsNotAfter}
use Rattle.proof_decisions.specs.ProofDecisions.{IsNeeded}

module _ (side : Side) (f : Qbf) (apart : Distinct (variables (pairs f.blocks))) where
  binds_not_both : (v : ℕ) → Binds f.blocks (reduced_quantifier side) v → Binds f.blocks (deciding_quantifier side) v → ⊥
  binds_not_both v r d =
      let both : Some (reduced_quantifier side) ≡ Some (deciding_quantifier side) = sym r ∙ d in
      not_both side (reduced_quantifier side) refl (cc both)

  -- the quantifier of a bound variable
  quantifier_of : (v : ℕ) → IsBound f.blocks v → Binds f.blocks (reduced_quantifier side) v ⊎ Binds f.blocks (deciding_quantifier side) v
  quantifier_of v bound =
      let b = bound_in (pairs f.blocks) v bound in
      let is : Binds f.blocks b.0 v = in_binds (pairs f.blocks) b.0 v apart b.1 in
      elim (who side b.0) [
        | inl mine ↦ inl (subst (λ q. Binds f.blocks q v) mine is)
        | inr theirs ↦ inr (subst (λ q. Binds f.blocks q v) theirs is)
      ]

  -- every literal of the deciding quantifier stands before l
  abbrev pub IsBehind : List Literal → Literal → Type 0
  IsBehind lits l = (m : Literal) → m ∈ lits → Binds f.blocks (deciding_quantifier side) m.var → IsBefore f.blocks m.var l.var

  needed_or_behind : (lits : List Literal) (l : Literal) → ((m : Literal) → m ∈ lits → IsBound f.blocks m.var) → IsBound f.blocks l.var
      → IsNeeded side f.blocks lits l ⊎ IsBehind lits l
  needed_or_behind lits l each bound =
      elim (split_each (λ m. Binds f.blocks (deciding_quantifier side) m.var → IsBefore f.blocks m.var l.var)
      (λ m. Binds f.blocks (deciding_quantifier side) m.var × IsNotAfter f.blocks l.var m.var) lits one) [
        | inl (m, h, q) ↦ inl (m, h, q.0, q.1)
        | inr all ↦ inr all
      ]
    where
      at_l : block_in l.var f.blocks ≡ Some (block f.blocks l.var)
      at_l = block_found f.blocks l.var bound

      one : (m : Literal) → m ∈ lits
          → (Binds f.blocks (deciding_quantifier side) m.var → IsBefore f.blocks m.var l.var)
          ⊎ (Binds f.blocks (deciding_quantifier side) m.var × IsNotAfter f.blocks l.var m.var)
      one m h = elim (quantifier_of m.var (each m h)) [
        | inl mine ↦ inl (λ theirs. absurd (binds_not_both m.var mine theirs))
        | inr theirs ↦
            let at_m : block_in m.var f.blocks ≡ Some (block f.blocks m.var) = block_found f.blocks m.var (each m h) in
            elim (cases_order (block f.blocks m.var) (block f.blocks l.var)) [
              | inl same ↦ inr (
                theirs,
                λ i j is_l is_m.
                    let a : i ≡ block f.blocks l.var = cc (is_l, at_l) in
                    let b : j ≡ block f.blocks m.var = cc (is_m, at_m) in omega (arith, a, b, same),
              )
              | inr (inl less) ↦ inl (λ _ i j is_m is_l.
                  let a : j ≡ block f.blocks l.var = cc (is_l, at_l) in
                  let b : i ≡ block f.blocks m.var = cc (is_m, at_m) in omega (arith, a, b, less))
              | inr (inr more) ↦ inr (
                theirs,
                λ i j is_l is_m.
                    let a : i ≡ block f.blocks l.var = cc (is_l, at_l) in
                    let b : j ≡ block f.blocks m.var = cc (is_m, at_m) in omega (arith, a, b, more),
              )
            ]
      ]

  -- a literal of the lits is needed or reducible
  pub needed_or_reducible : (lits : List Literal) (l : Literal) → ((m : Literal) → m ∈ lits → IsBound f.blocks m.var) → l ∈ lits
      → IsNeeded side f.blocks lits l ⊎ IsReducible side f.blocks lits l
  needed_or_reducible lits l each h = elim (needed_or_behind lits l each (each l h)) [
    | inl needed ↦ inl needed
    | inr behind ↦ elim (quantifier_of l.var (each l h)) [
      | inl mine ↦ inr (mine, behind)
      | inr theirs ↦
          let at_l = block_found f.blocks l.var (each l h) in
          let less : block f.blocks l.var < block f.blocks l.var = behind l h theirs (block f.blocks l.var) (block f.blocks l.var) at_l at_l in
          absurd (omega (arith, less))
    ]
  ]

  -- what is reducible in more literals is reducible in fewer
  pub fewer : (all lits : List Literal) (l : Literal) → lits ⊆ all → IsReducible side f.blocks all l → IsReducible side f.blocks lits l
  fewer all lits l within red = (red.0, λ m h. red.1 m (within m h))

pub sub_clean : (from to : List Literal) → to ⊆ from → IsClean from → IsClean to
sub_clean from to within clean l h k = clean l (within l h) (within (negated l) k)
