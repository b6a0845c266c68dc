use Rattle.std.proofs.Common.{◌≡◌, ◌++◌, [], ◌∷◌, map, take}
use Rattle.gate_clauses.proofs.clauses.put_each.Given as goal

abbrev pub invariant-loop-lit : goal.invariant-loop-lit
invariant-loop-lit l = record {
  put : l.clauses.whole ≡ l.fn.clauses.whole ++ map (λ m. l.one ∷ m ∷ []) (take l.lit-index l.others);
}
