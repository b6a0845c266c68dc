use Rattle.qrp_rules.proofs.Cited.{take, List, Literal, ◌∈◌, Clauses, IsClean, IsReduct}
use Rattle.qrp_rules.proofs.initial.reduced_clause.Given as goal

abbrev pub invariant-loop-position : goal.invariant-loop-position
invariant-loop-position l = (c : List Literal) → c ∈ take l.position l.formula.clauses → (IsClean c × IsReduct Clauses l.formula.blocks c l.set) → ⊥
