use Rattle.qrp_rules.proofs.Cited.{inl, inr, take_more_in}
use Rattle.written_steps.proofs.seen.put_each.Goals as goal

pub loop-lit-preserved : goal.loop-lit-preserved
loop-lit-preserved c = λ m h.
    let more = take_more_in c.args.lits.now c.loop-lit.lit-index c.lit-item.result m c.loop-lit-test.true c.lit-item.is in
    elim ((c.put.ensures m).0 h) [
      | inl k ↦ elim (c.loop-lit.invariant m k) [ inl old ↦ inl old | inr q ↦ inr (more (inl q)) ]
      | inr e ↦ inr (more (inr e.0))
    ]
