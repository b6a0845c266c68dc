use Rattle.qrp.proofs.Cited.{leads_further}
use Rattle.window_numbers.specs.Values.{numbers_of}
use Rattle.qrp.specs.WholeTrace.{trace_row}
use Rattle.qrp.proofs.buffered_numbers.keep_steps.Goals as goal

pub steps-preserved : goal.steps-preserved
steps-preserved g c =
    let step = rw (c.in-Some.is, c.new-next.ensures) at c.in_ok-to.ensures.leads in
    record {
      leads = leads_further trace_row _ _ _ (numbers_of c.args.values) c.args.start.0 c.steps.from c.in-Some.to c.steps.invariant.leads
          step.2;
      flat = c.keep_whole.ensures.flat;
      within = step.1;
    }
