use Rattle.qbf_tokens.proofs.Cited.{arith, refl}
use Rattle.qbf_text.specs.Written.{spaced_text}
use Rattle.qbf_text.proofs.SentParts.{sent_next, next_fails}
use Rattle.qbf_text.proofs.sink.Sink.push_four.Goals as goal

pub returns-in_err-push_spaced : goal.returns-in_err-push_spaced
returns-in_err-push_spaced g c = record {
  put = next_fails spaced_text c.args.four c.loop-negative.negative-index _ _ _ c.loop-negative.invariant.sent (omega (arith, c.loop-negative-test.true)) refl
      c.from_residual.ensures.1 c.in_err-push_spaced.ensures.put;
}

pub loop-negative-preserved : goal.loop-negative-preserved
loop-negative-preserved g c = record {
  sent = sent_next spaced_text c.args.four c.loop-negative.negative-index _ _ c.loop-negative.invariant.sent (omega (arith, c.loop-negative-test.true)) refl c.in_ok-push_spaced.ensures.put;
}
