use Rattle.std.proofs.Common.{◌≡◌, ◌≤◌, max, drop}
use Rattle.qbf_core.specs.Blocks.{pairs, variables}
use Rattle.gate_clauses.specs.Begun.{greatest}
use Rattle.gate_clauses.proofs.encoder.greatest_variable.Given as goal

abbrev pub invariant-loop-i : goal.invariant-loop-i
invariant-loop-i l =
    (max l.most (greatest (variables (drop l.i (pairs l.prefix)))) ≡ greatest (variables (pairs l.prefix))) × (l.most ≤ 2147483647)
