use Rattle.qbf_tokens.proofs.Cited.{◌≡◌, length, arith}
use Rattle.window_numbers.specs.Numbers.{place}
use Rattle.window_numbers.proofs.HeldNumbers.{fills_on}
use Rattle.window_numbers.proofs.PutNumbers.{lanes_are}
use Rattle.window_numbers.proofs.numbers.Numbers.put_spaced.Goals as goal

pub put_four-requires-clause-short : goal.put_four-requires-clause-short
put_four-requires-clause-short c = rw (lanes_are c.in-Some.four.values c.in-Some.ensures.four.2) c.in-Some.ensures.four.2

pub returns-clause-fills : goal.returns-clause-fills
returns-clause-fills c =
    let n = c.args.self.now in
    let values = c.in-Some.four.values in
    let four : length values ≡ 4 = omega arith in
    let row = c.in-Some.ensures.four in
    fills_on n c.put_four.new.self c.note_zeros-zeros.new.self c.args.bytes.now (place n n.first) c.args.runs c.args.filled.next 4 values
    c.requires.fills four (omega arith) row.0 row.1 (rw (lanes_are values row.2) at c.put_four.ensures.put) c.put_four.ensures.same
    c.note_zeros-zeros.ensures.same
