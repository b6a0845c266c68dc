use Rattle.qrp.proofs.Cited.{arith, common_steps, leads_further}
use Rattle.qrp.specs.Reading.{row}
use Rattle.window_numbers.proofs.PartedNumbers.{length_parted}
use Rattle.qrp.proofs.buffered_numbers.take_whole.Goals as goal

pub returns-clause-leads : goal.returns-clause-leads
returns-clause-leads c = grind (arith, common_steps, leads_further, row)

pub overflow_add-list : goal.overflow_add-list
overflow_add-list c =
    let v = c.args.values in
    record { fits = omega (arith, c.requires.within, length_parted v.short.now v.long.now) }

pub overflow_add-next : goal.overflow_add-next
overflow_add-next c =
    let v = c.args.values in
    record {
      fits = omega (arith, (c.in_ok-take_all_literals.ensures.leads c.if-not-branch.false).0, length_parted v.short.now v.long.now);
    }
