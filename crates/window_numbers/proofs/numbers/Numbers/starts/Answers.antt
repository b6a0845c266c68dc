use Rattle.window_numbers.proofs.NumbersInARow.{four_after}
use Rattle.window_numbers.proofs.numbers.Numbers.starts.Goals as goal

pub returns : goal.returns
returns c =
    four_after c.args.self.now c.args.bytes.now c.args.k c.start.result c.start-2.result c.start-3.result c.start-4.result c.start.ensures
    c.start-2.ensures c.start-3.ensures c.start-4.ensures
