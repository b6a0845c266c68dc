use Rattle.proof_decisions.proofs.RemovedLiterals.{just_all, just_more}
use Rattle.proof_decisions.proofs.literal_sets.set_all.Goals as goal

pub loop-lit-preserved : goal.loop-lit-preserved
loop-lit-preserved c =
    just_more c.args.lits.now c.loop-lit.lit-index c.lit-item.result c.loop-lit.seen c.put.new.seen c.loop-lit-test.true c.lit-item.is
    c.loop-lit.invariant c.in_ok-put.ensures

pub returns : goal.returns
returns c = just_all c.args.lits.now c.loop-lit.lit-index c.loop-lit.seen c.loop-lit-test.false c.loop-lit.invariant
