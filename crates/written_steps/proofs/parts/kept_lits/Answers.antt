use Rattle.written_steps.proofs.PartsFollow.{part_all, part_more}
use Rattle.written_steps.proofs.parts.kept_lits.Goals as goal

pub loop-lit-preserved : goal.loop-lit-preserved
loop-lit-preserved c =
    part_more c.args.reducible.prefix.now c.args.reducible.quantifier c.args.reducible.reach c.args.lits.now c.loop-lit.lit-index
    c.lit-item.result c.loop-lit.part.items c.push_kept.new.part.items c.loop-lit-test.true c.lit-item.is
    c.in_ok-push_kept.ensures.within c.in_ok-push_kept.ensures.kept c.in_ok-push_kept.ensures.put c.loop-lit.invariant

pub returns : goal.returns
returns c =
    part_all c.args.reducible.prefix.now c.args.reducible.quantifier c.args.reducible.reach c.args.lits.now c.loop-lit.lit-index
    c.loop-lit.part.items c.loop-lit-test.false c.loop-lit.invariant
