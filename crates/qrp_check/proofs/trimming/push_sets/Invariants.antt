use Rattle.trace_check.proofs.Cited.{◌≡◌, ◌++◌, take}
use Rattle.qrp_check.proofs.trimming.push_sets.Given as goal

abbrev pub invariant-loop-set : goal.invariant-loop-set
invariant-loop-set l = l.trace ≡ record l.fn.trace { sets = l.fn.trace.sets ++ take l.set-index l.sets }
