use Rattle.std.proofs.lemmas.Bool.{lt-ltb, ltb-true}
use Rattle.qrp_rules.proofs.Reducing.{reach_stands}
use Rattle.qrp_rules.proofs.blocks.Reducible.has.Goals as goal

pub returns : goal.returns
returns c =
    let stands = reach_stands c.args.self.prefix.now c.args.self.quantifier c.args.var c.reach.result c.args.self.reach c.reach.ensures.some
    c.reach.ensures.none in
    ((λ less. stands.0 (ltb-true _ _ less)), (λ out. lt-ltb _ _ (stands.1 out)))
