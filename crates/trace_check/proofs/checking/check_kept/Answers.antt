use Rattle.trace_check.proofs.ListedCore.{core_listed}
use Rattle.trace_check.proofs.StepsAt.{core_inside}
use Rattle.trace_check.proofs.checking.check_kept.Goals as goal

pub returns-in-Ok-clause-within : goal.returns-in-Ok-clause-within
returns-in-Ok-clause-within g c =
    core_inside _ _ (core_listed (g.T.KeptSteps.steps c.args.trace.now) c.in_ok-marks.marks.items c.in-Ok.core.items c.in_ok-marks.ensures.core
    (rw c.deref.ensures.value at c.in-Ok.ensures))
