use Rattle.written_steps.proofs.PartsFollow.{reduces_whole}
use Rattle.written_steps.proofs.parts.Part.for_reduct.Goals as goal

pub returns-clause-whole : goal.returns-clause-whole
returns-clause-whole g c = rw c.deref.ensures.value
    (reduces_whole g.S.Side.side c.args.prefix.now c.args.self.now.reach c.args.self.now.lits.items c.args.to.now
    (c.lacks_reducible.ensures c.if-not-lacks_reducible.false))
