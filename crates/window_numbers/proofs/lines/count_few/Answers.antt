use Rattle.window_numbers.proofs.LineEnds.{few_marked}
use Rattle.window_numbers.proofs.lines.count_few.Goals as goal

pub returns : goal.returns
returns c = few_marked c.args.bytes.now c.args.len c.marks_of.result c.requires.few c.marks_of.ensures
