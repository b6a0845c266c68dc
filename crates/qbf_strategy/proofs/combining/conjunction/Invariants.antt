use Rattle.qbf_strategy.specs.Conditions.{IsConjunctionBefore}
use Rattle.qbf_strategy.proofs.combining.conjunction.Given as goal

abbrev pub invariant-loop-wire : goal.invariant-loop-wire
invariant-loop-wire l = record {
  joined : IsConjunctionBefore l.fn.gates l.gates l.wires l.wire-index l.all;
}
