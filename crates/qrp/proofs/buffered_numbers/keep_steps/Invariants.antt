use Rattle.qrp.proofs.Cited.{◌-◌, ◌≤◌, length, IsFlat, kept_of}
use Rattle.window_numbers.specs.Values.{numbers_of}
use Rattle.qbf_text.specs.TakenNumbers.{LeadsOver}
use Rattle.qrp.specs.WholeTrace.{trace_at, trace_row}
use Rattle.qrp.specs.declared.states.State.TheVariants.{Between}
use Rattle.qrp.proofs.buffered_numbers.keep_steps.Given as goal

abbrev pub invariant-steps : goal.invariant-steps
invariant-steps g l = record {
  leads : LeadsOver trace_row (trace_at g.A.StepLists.lists l.fn.parts Between) (trace_at g.A.StepLists.lists l.parts Between) (numbers_of l.values) l.fn.start.0 l.from;
  flat : IsFlat (kept_of g.A.StepLists.lists l.parts);
  within : l.from ≤ length (numbers_of l.values);
}

abbrev pub decreases-steps : goal.decreases-steps
decreases-steps g l = length (numbers_of l.values) - l.from
