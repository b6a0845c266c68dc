use Rattle.qrp.proofs.Cited.{leads_further}
use Rattle.window_numbers.specs.Values.{numbers_of}
use Rattle.qrp.specs.Reading.{row}
use Rattle.qrp.proofs.BufferedNumbers.{arrives_in_turn}
use Rattle.qrp.proofs.buffered_numbers.take_part.Goals as goal

pub returns-in-Ok-clause-takes : goal.returns-in-Ok-clause-takes
returns-in-Ok-clause-takes c =
    let number = c.take_number-state in
    arrives_in_turn _ _ c.take_one_by_one.new.lists c.take_one_by_one.result.0 (numbers_of c.args.values) c.args.next.from c.in-Ok.to
    c.take_one_by_one.result.1 (leads_further row _ _ _ (numbers_of c.args.values) c.args.next.from number.result.1 c.in-Ok.to number.ensures.leads
    c.in-Ok.ensures.leads) c.take_one_by_one.ensures.takes
