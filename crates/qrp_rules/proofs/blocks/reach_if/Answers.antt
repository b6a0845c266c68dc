use Rattle.qrp_rules.proofs.Reducing.{reach_held}
use Rattle.qrp_rules.proofs.Cited.{false≢true, sym, ◌∙◌}
use Rattle.qrp_rules.proofs.blocks.reach_if.Goals as goal

pub returns : goal.returns
returns c = λ k.
    let held = reach_held c.args.prefix.now c.args.quantifier c.args.var c.reach.result c.reach.ensures.some c.reach.ensures.none k in
    ((λ le _. held.0 le), (λ all. held.1 (all (λ pivot. false≢true (sym c.if-is_the_pivot.false ∙ c.is_the_pivot.ensures.1 pivot)))))
