use Rattle.qbf_text.proofs.SentParts.{sent_next, next_fails}
use Rattle.dimacs_syntax.proofs.writing.RefSlicePut.put.Goals as goal

pub returns-in_err-put : goal.returns-in_err-put
returns-in_err-put g c = next_fails g.P.Put.text _ _ _ _ _ c.loop-item.invariant.sent c.loop-item-test.true c.item-item.is
    c.from_residual.ensures.1 c.in_err-put.ensures

pub loop-item-preserved : goal.loop-item-preserved
loop-item-preserved g c = record {
  sent = sent_next g.P.Put.text _ _ _ _ c.loop-item.invariant.sent c.loop-item-test.true c.item-item.is c.in_ok-put.ensures;
}
