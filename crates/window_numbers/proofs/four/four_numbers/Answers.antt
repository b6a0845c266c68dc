use Rattle.std.proofs.Common.{rules, arith, ◌≡◌, length}
use Rattle.window_numbers.proofs.FourValues.{in_a_row}
use Rattle.window_numbers.proofs.four.four_numbers.Goals as goal

pub returns-clause-numbers : goal.returns-clause-numbers
returns-clause-numbers c =
    let x = c.args in
    let long : length x.ends ≡ 4 = search rules in
    in_a_row x.bytes.now x.from x.ends c.in_ok-four.four.values long (omega arith) c.in_ok-four.ensures.numbers
