use Rattle.std.proofs.Common.{take}
use Rattle.std.specs.List.{AllByRecursion}
use Rattle.qrp_handle.proofs.Splitting.{IsLiteral}
use Rattle.qrp_handle.proofs.clauses.first_length.Given as goal

abbrev pub invariant-loop-i : goal.invariant-loop-i
invariant-loop-i l = AllByRecursion IsLiteral (take l.i l.written)
