use Rattle.qrp_rules.proofs.Cited.{◌∙◌, MayOmit}
use Rattle.proof_decisions.proofs.RemovedLiterals.{others_all, others_more}
use Rattle.proof_decisions.proofs.removing.remove_others.Goals as goal

pub loop-lit-preserved : goal.loop-lit-preserved
loop-lit-preserved c = record {
  whole = c.remove_other.ensures.whole ∙ c.loop-lit.invariant.whole;
  removes = others_more (λ l. MayOmit c.args.aside.reducible c.args.aside.pivot l.var) c.args.lits.now c.loop-lit.lit-index c.lit-item.result
      c.loop-lit-test.true c.lit-item.is c.args.seen.now c.loop-lit.seen c.remove_other.new.seen c.args.removed.now.unfinished
      c.loop-lit.removed.unfinished c.remove_other.new.removed.unfinished c.loop-lit.invariant.removes c.in_ok-remove_other.ensures.removes;
}

pub returns-clause-removes : goal.returns-clause-removes
returns-clause-removes c =
    others_all (λ l. MayOmit c.args.aside.reducible c.args.aside.pivot l.var) c.args.lits.now c.loop-lit.lit-index c.args.seen.now
    c.loop-lit.seen c.args.removed.now.unfinished c.loop-lit.removed.unfinished c.loop-lit-test.false c.loop-lit.invariant.removes
