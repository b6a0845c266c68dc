use Rattle.std.proofs.Common.{sym, ◌∙◌}
use Rattle.decimal.proofs.Eight.{eight_is}
use Rattle.decimal.proofs.Lists.{word_bytes, spread}
use Rattle.decimal.proofs.word.eight_digits.Goals as goal

pub returns : goal.returns
returns c =
    let h = c.requires in
    eight_is _ _ _ _ _ _ _ _ c.args.digits h.0 h.1.0 h.1.1.0 h.1.1.1.0 h.1.1.1.1.0 h.1.1.1.1.1.0 h.1.1.1.1.1.1.0 h.1.1.1.1.1.1.1.0
    (sym (word_bytes c.args.digits c.ranges.digits.fits) ∙ spread _ _ _ _ _ _ _ _)
