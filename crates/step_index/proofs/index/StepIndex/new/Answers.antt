use Rattle.std.proofs.Common.{rules}
use Rattle.step_index.proofs.index.StepIndex.new.Goals as goal

pub invariant_of-result : goal.invariant_of-result
unfolding Rattle.std.specs.List.IsDistinct
invariant_of-result c = search rules
