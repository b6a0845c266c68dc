use Rattle.qbf_tokens.proofs.Cited.{◌≡◌, length, refl, ◌∙◌, arith}
use Rattle.window_numbers.proofs.PartedNumbers.{length_parted}
use Rattle.window_numbers.specs.Numbers.{place}
use Rattle.window_numbers.proofs.PutNumbers.{lanes_are}
use Rattle.window_numbers.proofs.HeldNumbers.{fills_on}
use Rattle.window_numbers.proofs.numbers.Numbers.put_usual.Goals as goal

pub numbers-init : goal.numbers-init
numbers-init c = record {
  values_len = length_parted c.args.self.now.values c.args.self.now.longs ∙ c.requires.room.2;
  few = c.requires.room.1;
  first = omega arith;
  before = c.requires.room.0;
  front = refl;
  within = c.requires.start;
  stand = λ j low high. absurd (omega (arith, low, high));
}

pub put_four-requires-clause-short : goal.put_four-requires-clause-short
put_four-requires-clause-short c = rw (lanes_are c.in-Some.four.values c.in-Some.ensures.four.2) c.in-Some.ensures.four.2

pub numbers-preserved-in-Some : goal.numbers-preserved-in-Some
numbers-preserved-in-Some c =
    let values = c.in-Some.four.values in
    let four : length values ≡ 4 = omega arith in
    let row = c.in-Some.ensures.four in
    fills_on c.numbers.self c.put_four.new.self c.note_zeros-zeros.new.self c.args.bytes.now (place c.args.self.now c.args.self.now.first)
    c.args.runs c.numbers.k 4 values c.numbers.invariant four (omega arith) row.0 row.1
    (rw (lanes_are values row.2) at c.put_four.ensures.put) c.put_four.ensures.same c.note_zeros-zeros.ensures.same
