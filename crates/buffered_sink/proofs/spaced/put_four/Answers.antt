use Rattle.std.proofs.Common.{arith, false, subst}
use Rattle.decimal.specs.Digits.{IsPutFrom}
use Rattle.qbf_text.specs.Written.{spaced_text}
use Rattle.qbf_text.proofs.SentParts.{four_texts}
use Rattle.buffered_sink.proofs.Fronts.{put_both}
use Rattle.buffered_sink.proofs.spaced.put_four.Goals as goal

pub returns-clause-put : goal.returns-clause-put
returns-clause-put c =
    let a = c.put_spaced-second_at.ensures in
    let b = c.put_spaced-third_at.ensures in
    let d = c.put_spaced-last_at.ensures in
    subst (IsPutFrom c.args.bytes.now c.put_spaced.new.bytes c.args.at c.put_spaced.result)
    (four_texts spaced_text c.args.four (false, 0) (false, 0) (false, 0) (false, 0) (omega arith))
    (put_both _ _ _ _ _ _ _ _ (omega (arith, c.requires)) a.put
    (put_both _ _ _ _ _ _ _ _ (omega (arith, c.requires, a.within, c.put_spaced-second_at.auto.bytes)) b.put
    (put_both _ _ _ _ _ _ _ _ (omega (arith, c.requires, a.within, b.within, c.put_spaced-second_at.auto.bytes, c.put_spaced-third_at.auto.bytes)) d.put c.put_spaced.ensures.put)))
