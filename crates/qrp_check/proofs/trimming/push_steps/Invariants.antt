use Rattle.trace_check.proofs.Cited.{◌≡◌, take, steps_at}
use Rattle.qrp_check.proofs.trimming.push_steps.Given as goal

abbrev pub invariant-loop-position : goal.invariant-loop-position
invariant-loop-position l = l.shorter ≡ record l.fn.shorter { steps = steps_at l.trace.steps (take l.position-index l.positions) }
