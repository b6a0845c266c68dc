use Rattle.qrp_rules.proofs.Cited.{refl}
use Rattle.written_steps.proofs.WrittenSteps.{followed_by}
use Rattle.written_steps.proofs.written_resolvent.accepts_resolvent.Goals as goal

pub returns : goal.returns
returns g c =
    followed_by c.args.rules g.S.Side.side c.args.prefix.now c.args.step.a.now c.args.step.b.now c.args.step.to.now
    c.match-find_rests.rests.pivot.var c.follows_by_rests.result c.follows_by_rests.ensures
    (rw c.var.ensures at c.if-not-is_pivot.ensures.0 refl) c.requires.a c.requires.b
