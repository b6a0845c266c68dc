use Rattle.qrp_rules.proofs.Cited.{common_steps, ℕ, ◌⊎◌, refl, subst, inl, inr, arith, false≢true, Literal, ◌∈◌, in_at, each_more, MayOmit}
use Rattle.qrp_rules.proofs.Cursors.{reach_more, reach_in}
use Rattle.qrp_rules.proofs.walks.is_subset_up_to.Goals.{else-not-kept-via-then-not-kept+else-not-may_omit, else-not-kept-via-else-not-kept}
use Rattle.qrp_rules.proofs.walks.is_subset_up_to.Goals as goal

pub returns-then-not-may_omit : goal.returns-then-not-may_omit
returns-then-not-may_omit c = grind (arith, common_steps, false≢true, in_at, reach_in)

pub loop-lit-preserved : goal.loop-lit-preserved
loop-lit-preserved c =
    let i : ℕ = c.loop-lit.lit-index in
    let x : Literal = c.lit-item.result in
    let is : (x ∈ c.args.to.now) ⊎ MayOmit c.args.reducible c.args.pivot x.var = elim c.else-not-kept.branch [
      | else-not-kept-via-then-not-kept+else-not-may_omit w ↦ inr
          (subst (λ (v : ℕ). MayOmit c.args.reducible c.args.pivot v) w.var.ensures (w.if-not-may_omit.ensures.0 refl))
      | else-not-kept-via-else-not-kept w ↦ inl
          (c.loop-lit.invariant.reach.within x (c.seek_literal-kept.ensures.found.0 w.if-not-kept.false))
    ] in
    record {
      reach = (let sought = c.seek_literal-kept.ensures in
          reach_more c.args.to.now c.loop-lit.rest.now _ c.args.from.now i x.var x c.requires.from c.loop-lit-test.true c.lit-item.is
          c.loop-lit.invariant.reach sought.rest.ordered sought.rest.within refl sought.rest.kept);
      done = each_more (λ (z : Literal). (z ∈ c.args.to.now) ⊎ MayOmit c.args.reducible c.args.pivot z.var)
          c.args.from.now i x c.loop-lit-test.true c.lit-item.is is c.loop-lit.invariant.done;
    }
