use Rattle.qbf_text.proofs.SentParts.{part_at}
use Rattle.qrp.proofs.Cited.{set_text, sent_fails, sent_part}
use Rattle.qrp.proofs.writing.SetLinesPut.put.Goals as goal

pub returns-in_err-put_set : goal.returns-in_err-put_set
returns-in_err-put_set g c = sent_fails _ _ c.loop-place.invariant.sent (part_at set_text _ c.loop-place.place _ c.get-quantifier.ensures)
    c.from_residual.ensures.1 c.in_err-put_set.ensures

pub loop-place-preserved : goal.loop-place-preserved
loop-place-preserved g c = record {
  sent = sent_part _ c.loop-place.invariant.sent (part_at set_text _ c.loop-place.place _ c.get-quantifier.ensures) c.in_ok-put_set.ensures;
}
