use Rattle.window_numbers.proofs.Cited.{nat_eq, get_or}
use Rattle.std.proofs.Common.{SFits, w32}
use Rattle.std.specs.Prelude.{pos}
use Rattle.std.proofs.lemmas.Int.{to_z-of_z}
use Rattle.window_numbers.specs.Values.{value}
use Rattle.window_numbers.proofs.LongNumbers.{last_eight, last_separator, tail_far, whole_number}
use Rattle.window_numbers.proofs.NumbersInARow.{short, usual}
use Rattle.window_numbers.proofs.PartedNumbers.{short_is}
use Rattle.window_numbers.proofs.tails.FourTails.number.Goals as goal

pub returns-then-start-tail : goal.returns-then-start-tail
returns-then-start-tail c =
    let bytes = c.args.bytes.now in
    let f = c.args.self.now in
    let i = c.args.i in
    let from = get_or f.tails i 0 in
    let end = get_or f.ends i 0 in
    let v = get_or f.values i (pos 0) in
    let t = c.requires.tails in
    let n = t.numbers i c.requires.lane in
    let fits : SFits w32 v = search in
    rw (to_z-of_z w32 v fits, short_is v 0 (short bytes from end v n), c.if-start-tail.true)
    (nat_eq (get_or bytes end 0) 10, usual bytes from end v (t.within i c.requires.lane) n (t.separate i c.requires.lane))

pub number_ending-requires-clause-last : goal.number_ending-requires-clause-last
number_ending-requires-clause-last c =
    let f = c.args.self.now in
    let i = c.args.i in
    let t = c.requires.tails in
    let v = get_or f.values i (pos 0) in
    let fits : SFits w32 v = search in
    rw (to_z-of_z w32 v fits) (last_eight c.args.bytes.now (get_or f.starts i 0) (get_or f.tails i 0) (get_or f.ends i 0) v
    (t.numbers i c.requires.lane) (tail_far _ _ _ (t.tails i c.requires.lane) c.if-start-tail.false) (t.within i c.requires.lane)
    (rw (to_z-of_z w32 v fits) at c.if-last-lt0.false))

pub number_ending-requires-clause-separator : goal.number_ending-requires-clause-separator
number_ending-requires-clause-separator c =
    let f = c.args.self.now in
    let i = c.args.i in
    let t = c.requires.tails in
    let v = get_or f.values i (pos 0) in
    let fits : SFits w32 v = search in
    last_separator c.args.bytes.now (get_or f.starts i 0) (get_or f.tails i 0) (get_or f.ends i 0) v
    (t.numbers i c.requires.lane) (tail_far _ _ _ (t.tails i c.requires.lane) c.if-start-tail.false) (t.within i c.requires.lane)
    (rw (to_z-of_z w32 v fits) at c.if-last-lt0.false) (t.separate i c.requires.lane)

pub returns : goal.returns
returns c =
    let f = c.args.self.now in
    let i = c.args.i in
    let t = c.requires.tails in
    let v = get_or f.values i (pos 0) in
    let fits : SFits w32 v = search in
    whole_number c.args.bytes.now (get_or f.starts i 0) (get_or f.tails i 0) (get_or f.ends i 0) v
    (t.numbers i c.requires.lane) (tail_far _ _ _ (t.tails i c.requires.lane) c.if-start-tail.false) (t.within i c.requires.lane)
    (rw (to_z-of_z w32 v fits) at c.if-last-lt0.false) (value c.in_ok-number.number) c.in_ok-number.ensures
