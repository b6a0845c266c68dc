use Rattle.std.proofs.Common.{◌≡◌, ◌++◌, take}
use Rattle.qbf_core.specs.Blocks.{pairs}
use Rattle.gate_clauses.proofs.whole.bind_all.Given as goal

abbrev pub invariant-loop-i : goal.invariant-loop-i
invariant-loop-i l = record {
  bound : pairs l.encoder.blocks ≡ pairs l.initial.encoder.blocks ++ take l.i (pairs l.prefix);
  clauses : l.encoder.clauses ≡ l.initial.encoder.clauses;
}
