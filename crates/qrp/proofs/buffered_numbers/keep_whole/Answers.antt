use Rattle.qrp.proofs.Cited.{refl, arith, state_at}
use Rattle.window_numbers.specs.Values.{numbers_of}
use Rattle.qrp.specs.declared.states.State.TheVariants.{InAnts, Between}
use Rattle.qrp.proofs.KeptItems.{step_kept, step_leads}
use Rattle.window_numbers.proofs.PartedNumbers.{length_parted}
use Rattle.qrp.proofs.buffered_numbers.keep_whole.Goals as goal

pub returns-clause-leads : goal.returns-clause-leads
returns-clause-leads g c =
    let b = c.take_whole.new.lists in
    let p = record c.args.parts.now { lists = b } in
    let n = c.in-Some.number in
    let taken = rw c.in-Some.is at c.in_ok-number.ensures.leads in
    let zero = c.if-not-surely_zero.ensures in
    let leads = step_leads g.A.StepLists.lists c.args.parts.now b (state_at c.args.parts.now.lists Between) (state_at b (InAnts n)) (numbers_of c.args.values)
    c.args.next.from c.in-Some.to c.take_whole.ensures.stays taken.1 in (
      omega (arith, taken.1.counted),
      omega (arith, zero.within refl),
      step_kept g.A.StepLists.lists _ p c.close.new.parts n (numbers_of c.args.values) c.args.next.from c.in-Some.to (zero.zero refl) leads c.in_ok-close.ensures.closed,
    )

pub overflow_add-result : goal.overflow_add-result
overflow_add-result g c =
    let v = c.args.values in
    record { fits = omega (arith, c.if-not-surely_zero.ensures.within refl, length_parted v.short.now v.long.now) }
