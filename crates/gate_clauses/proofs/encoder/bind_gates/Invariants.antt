use Rattle.std.proofs.Common.{◌≡◌, ◌++◌, List, take}
use Rattle.std.specs.List.{AllByRecursion}
use Rattle.qbf_core.specs.Blocks.{AreBound, pairs}
use Rattle.qbf_core.specs.Literal.{Literal}
use Rattle.gate_clauses.specs.Encoding.{gate_clauses, gate_pairs}
use Rattle.gate_clauses.proofs.encoder.bind_gates.Given as goal

abbrev pub invariant-loop-i : goal.invariant-loop-i
invariant-loop-i l = record {
  bound : pairs l.prefix ≡ pairs l.initial.prefix ++ gate_pairs (take l.i l.gates.gates);
  closed : (cs : List (List Literal)) → AllByRecursion (AreBound l.initial.prefix) cs
      → AllByRecursion (AreBound l.prefix) (cs ++ gate_clauses (take l.i l.gates.gates));
}
