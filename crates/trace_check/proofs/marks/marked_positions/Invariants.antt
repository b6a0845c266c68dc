use Rattle.trace_check.proofs.Cited.{ListsMarked}
use Rattle.trace_check.proofs.marks.marked_positions.Given as goal

abbrev pub invariant-loop-position : goal.invariant-loop-position
invariant-loop-position l = ListsMarked l.marks l.position l.positions.items
