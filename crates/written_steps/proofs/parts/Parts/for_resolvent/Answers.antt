use Rattle.written_steps.proofs.PartsFollow.{lent}
use Rattle.written_steps.proofs.parts.Parts.for_resolvent.Goals as goal

pub returns : goal.returns
returns g c = λ whole are.
    let is = lent g.S.Side.side c.args.prefix.now c.args.self.now c.args.step.number whole c.in_ok-lits.lits.now c.in_ok-part.part.now
    c.in_ok-part.ensures c.in_ok-lits.ensures.lits are in
    (is.within, λ rules. c.in_ok-lits.ensures.whole rules whole is)
