use Rattle.window_numbers.specs.Numbers.{place}
use Rattle.window_numbers.proofs.HeldNumbers.{fills_still}
use Rattle.window_numbers.proofs.numbers.Numbers.put_others.Goals as goal

pub returns-then-next-k-clause-fills : goal.returns-then-next-k-clause-fills
returns-then-next-k-clause-fills c =
    let n = c.args.self.now in
    let start = place n n.first in
    let first = c.in-Some.ensures.1 in
    let put = c.put_tails-next.ensures.fills start c.args.runs (rw first c.in-Some.ensures.0) (rw first c.requires.fills) in
    fills_still c.put_tails-next.new.numbers c.note_zeros-zeros.new.self c.note_zeros-zeros.new.self.zeros c.args.bytes.now start c.args.runs
    c.put_tails-next.result c.note_zeros-zeros.ensures.same put

pub put_ones-requires-2-clause-fills : goal.put_ones-requires-2-clause-fills
put_ones-requires-2-clause-fills c =
    let n = c.args.self.now in
    let m = c.note_zeros-zeros.new.self in
    let start = place n n.first in
    let first = c.in-Some.ensures.1 in
    let put = c.put_tails-next.ensures.fills start c.args.runs (rw first c.in-Some.ensures.0) (rw first c.requires.fills) in
    let still = fills_still c.put_tails-next.new.numbers m m.zeros c.args.bytes.now start c.args.runs c.put_tails-next.result
    c.note_zeros-zeros.ensures.same put in
    rw still.front still
