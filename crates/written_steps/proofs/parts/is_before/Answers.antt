use Rattle.qrp_rules.proofs.Reducing.{reach_held}
use Rattle.std.proofs.lemmas.Bool.{leb-true}
use Rattle.written_steps.proofs.parts.is_before.Goals as goal

pub returns : goal.returns
returns c = λ t _.
    (reach_held c.args.prefix.now c.args.quantifier c.args.var c.reach.result c.reach.ensures.some c.reach.ensures.none c.args.reach).0
    (leb-true _ _ t)
