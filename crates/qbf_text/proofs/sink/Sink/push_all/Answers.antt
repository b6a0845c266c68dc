use Rattle.qbf_tokens.proofs.Cited.{arith, common_steps}
use Rattle.qbf_text.proofs.SentParts.{sent_more}
use Rattle.qbf_text.proofs.sink.Sink.push_all.Goals as goal

pub loop-rest-preserved : goal.loop-rest-preserved
loop-rest-preserved g c = grind (arith, common_steps, sent_more)
