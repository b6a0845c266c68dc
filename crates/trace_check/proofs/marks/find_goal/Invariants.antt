use Rattle.std.proofs.Common.{◌≡◌, ℕ, ◌<◌, ◌≤◌, [], length}
use Rattle.trace_items.specs.Inferences.{Inference, IsAt}
use Rattle.trace_check.proofs.marks.find_goal.Given as goal

abbrev pub invariant-loop-i : goal.invariant-loop-i
invariant-loop-i g l = record {
  within : l.i ≤ length (g.T.KeptSteps.steps l.trace);
  later : (j : ℕ) (step : Inference) → IsAt (g.T.KeptSteps.steps l.trace) j step → step.lits ≡ [] → j < l.i;
}
