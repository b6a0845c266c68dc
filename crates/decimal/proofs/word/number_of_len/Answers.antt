use Rattle.std.proofs.Common.{◌∙◌}
use Rattle.decimal.proofs.Moved.{digits_moved, moved_value}
use Rattle.decimal.proofs.word.number_of_len.Goals as goal

pub returns : goal.returns
returns c =
    let fits = c.ranges.word.fits in
    let run = digits_moved c.args.word c.args.len fits c.requires.1 (c.surely_digits.ensures c.if-not-surely_digits.false) in
    (run, c.eight_digits.ensures ∙ moved_value c.args.word c.args.len fits c.requires.1 run)
