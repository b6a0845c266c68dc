use Rattle.qbf_tokens.proofs.Cited.{◌-◌, length, ap, arith}
use Rattle.std.specs.Prelude.{slice_range, drop}
use Rattle.std.proofs.lemmas.List.{length-take}
use Rattle.window_numbers.proofs.PartedNumbers.{length_parted, part_of}
use Rattle.window_numbers.proofs.numbers.Numbers.values.Goals as goal

pub returns-clause-part : goal.returns-clause-part
returns-clause-part c =
    let n = c.args.self.now in rw c.new.ensures (part_of n.values n.longs n.first n.known)

pub returns-clause-within : goal.returns-clause-within
returns-clause-within c =
    let n = c.args.self.now in
    let cut = length_parted (slice_range n.values n.first n.known) (slice_range n.longs n.first n.known) in
    omega (arith, ap length c.new.ensures, cut, length-take (n.known - n.first) (drop n.first n.values), c.requires.some)
