use Rattle.written_steps.proofs.PartsFollow.{lent}
use Rattle.written_steps.proofs.parts.Parts.for_reduct.Goals as goal

pub returns : goal.returns
returns g c = λ whole are.
    let is = lent g.S.Side.side c.args.prefix.now c.args.self.now c.args.number whole c.in_ok-lits.lits.now c.in_ok-part.part.now
    c.in_ok-part.ensures c.in_ok-lits.ensures.lits are in
    (is.within, c.in_ok-lits.ensures.whole whole is)
