use Rattle.qrp.proofs.Cited.{leads_further}
use Rattle.window_numbers.specs.Values.{numbers_of}
use Rattle.qrp.specs.WholeTrace.{trace_row}
use Rattle.qrp.proofs.KeptItems.{trace_in_turn}
use Rattle.qrp.proofs.whole_trace.TraceGrammar.take_known_steps.Goals as goal

pub returns-then-from-len-clause-leads : goal.returns-then-from-len-clause-leads
returns-then-from-len-clause-leads g c =
    let xs = numbers_of c.args.values in
    rw c.in-Between.is (leads_further trace_row _ _ _ xs 0 c.in_ok-first.first c.in_ok-from.from
    (rw (← c.self-2.view_is, c.in-Between.is) at c.in_ok-first.ensures.leads) c.in_ok-from.ensures.leads)

pub returns-clause-leads : goal.returns-clause-leads
returns-clause-leads g c =
    let xs = numbers_of c.args.values in
    trace_in_turn _ _ _ xs 0 c.in_ok-from.from c.take_part.result (leads_further trace_row _ _ _ xs 0 c.in_ok-first.first c.in_ok-from.from
    (rw (← c.self-2.view_is, c.in-Between.is) at c.in_ok-first.ensures.leads) c.in_ok-from.ensures.leads)
    (rw (c.in-Between.is, c.new.ensures) at c.take_part.ensures.leads)
