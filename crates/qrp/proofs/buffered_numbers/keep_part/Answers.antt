use Rattle.qrp.proofs.Cited.{state_at}
use Rattle.window_numbers.specs.Values.{numbers_of}
use Rattle.qrp.proofs.KeptItems.{part_kept, step_leads}
use Rattle.qrp.proofs.buffered_numbers.keep_part.Goals as goal

pub returns-in_default-clause-leads : goal.returns-in_default-clause-leads
returns-in_default-clause-leads g c =
    let r = c.take_part-state in
    step_leads g.A.StepLists.lists c.args.parts.now r.new.lists _ _ (numbers_of c.args.values) c.args.next.from c.in-Ok.taken.0
    r.ensures.sound.0 (rw (c.in-Ok.is, c.in_default.is) at r.ensures.takes)

pub returns-in-Ok-close-clause-leads : goal.returns-in-Ok-close-clause-leads
returns-in-Ok-close-clause-leads g c =
    let r = c.take_part-state in
    part_kept g.A.StepLists.lists c.args.parts.now c.close.new.parts r.new.lists
    (state_at c.args.parts.now.lists c.args.here) r.result.0 c.in-Some.part (numbers_of c.args.values) c.args.next.from c.in-Ok.taken.0
    r.ensures.sound.0 (rw (c.in-Ok.is, c.in-Some.is) at r.ensures.takes) c.in-Ok-close.ensures.closed
