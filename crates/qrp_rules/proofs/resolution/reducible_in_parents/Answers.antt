use Rattle.qrp_rules.proofs.Cited.{◌∙◌}
use Rattle.qrp_rules.proofs.Reducing.{after_max, after_min, parents_account}
use Rattle.qrp_rules.proofs.resolution.reducible_in_parents.Goals as goal

pub returns : goal.returns
returns g c = λ to.
    parents_account g.S.Side.side c.args.prefix.now c.REDUCED-reduced.result c.DECIDING-deciding.result
    (c.REDUCED-reduced.ensures ∙ g.met.S.Side.reduces) (c.DECIDING-deciding.ensures ∙ g.met.S.Side.decides)
    c.args.a.now c.args.b.now to c.args.pivot c.innermost_reach-beside_a.result c.innermost_reach-beside_b.result c.reach_if-of_pivot.result
    c.max.result c.max-2.result c.max-whole.result c.min.result c.min-2.result c.requires
    (after_max _ _ _ c.max-whole.ensures)
    (record {
      is_beside = rw c.number.ensures.value at c.innermost_reach-beside_a.ensures;
      is_of_pivot = c.reach_if-of_pivot.ensures;
      is_own = after_max _ _ _ c.max.ensures;
      is_both = after_min _ _ _ c.min.ensures;
    })
    (record {
      is_beside = rw c.number.ensures.value at c.innermost_reach-beside_b.ensures;
      is_of_pivot = c.reach_if-of_pivot.ensures;
      is_own = after_max _ _ _ c.max-2.ensures;
      is_both = after_min _ _ _ c.min-2.ensures;
    })
