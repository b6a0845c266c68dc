use Rattle.std.proofs.Common.{arith}
use Rattle.decimal.proofs.Moved.{at_most, moved_below}
use Rattle.decimal.proofs.word.short_number.Goals as goal

pub eight_digits-requires : goal.eight_digits-requires
eight_digits-requires c =
    let len = c.digit_run-len in
    moved_below c.args.word len.result c.ranges.word.fits (at_most c.args.word len.result len.ensures) (omega (arith, len.ensures))
