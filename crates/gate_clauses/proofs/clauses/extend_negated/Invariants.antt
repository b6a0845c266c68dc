use Rattle.std.proofs.Common.{◌≡◌, ◌++◌, map, take}
use Rattle.qbf_core.specs.Literal.{negated}
use Rattle.gate_clauses.proofs.clauses.extend_negated.Given as goal

abbrev pub invariant-loop-lit : goal.invariant-loop-lit
invariant-loop-lit l = record {
  whole : l.clauses.whole ≡ l.fn.clauses.whole;
  unfinished : l.clauses.unfinished ≡ l.fn.clauses.unfinished ++ map negated (take l.lit-index l.others);
}
