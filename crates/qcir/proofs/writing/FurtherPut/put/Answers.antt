use Rattle.qbf_text.proofs.SentParts.{sent_next, next_fails}
use Rattle.qcir.specs.Written.{input_text}
use Rattle.qcir.proofs.writing.FurtherPut.put.Goals as goal

pub returns-in_err-put : goal.returns-in_err-put
returns-in_err-put g c = next_fails (input_text c.args.self.now.0.now) _ _ _ _ _ c.loop-lit.invariant.sent c.loop-lit-test.true c.lit-item.is
    c.from_residual.ensures.1 c.in_err-put.ensures

pub loop-lit-preserved : goal.loop-lit-preserved
loop-lit-preserved g c = record {
  sent = sent_next (input_text c.args.self.now.0.now) _ _ _ _ c.loop-lit.invariant.sent c.loop-lit-test.true c.lit-item.is c.in_ok-put.ensures;
}
