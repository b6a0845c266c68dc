use Rattle.std.proofs.Common.{arith}
use Rattle.decimal.proofs.Eights.{both_digits, both_value}
use Rattle.decimal.proofs.number.long_between.Goals as goal

pub returns-clause-digits : goal.returns-clause-digits
returns-clause-digits c =
    let bytes = c.args.bytes.now in
    both_digits bytes c.args.from c.args.end c.in_ok-high.high c.in_ok-low.low (omega (arith, c.requires.place, c.requires.sign))
    (omega (arith, c.requires.place)) (omega (arith, c.if-mid-bytes.false)) c.in_ok-low.ensures.within c.in_ok-high.ensures.digits
    c.in_ok-low.ensures.digits

pub returns-clause-value : goal.returns-clause-value
returns-clause-value c =
    let bytes = c.args.bytes.now in
    let sum = both_value bytes c.args.from c.args.end c.in_ok-high.high c.in_ok-low.low (omega (arith, c.requires.place, c.requires.sign))
    (omega (arith, c.requires.place)) (omega (arith, c.if-mid-bytes.false)) c.in_ok-low.ensures.within c.in_ok-high.ensures.value
    c.in_ok-low.ensures.value in
    omega (arith, sum, c.in_ok-shifted.ensures.1, c.in_ok-all.ensures.1)
