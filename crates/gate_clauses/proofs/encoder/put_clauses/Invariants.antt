use Rattle.std.proofs.Common.{◌≡◌, ◌++◌, take}
use Rattle.gate_clauses.specs.Encoding.{gate_clauses}
use Rattle.gate_clauses.proofs.encoder.put_clauses.Given as goal

abbrev pub invariant-loop-i : goal.invariant-loop-i
invariant-loop-i l = l.clauses.whole ≡ l.initial.clauses.whole ++ gate_clauses (take l.i l.gates.gates)
