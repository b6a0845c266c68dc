use Rattle.core_walk.proofs.Marking.{IsMarking}
use Rattle.core_walk.proofs.marks.mark_core.Given as goal

abbrev pub invariant-loop-i : goal.invariant-loop-i
invariant-loop-i g l = IsMarking (g.T.KeptSteps.steps l.trace) l.goal l.i l.marks.items
