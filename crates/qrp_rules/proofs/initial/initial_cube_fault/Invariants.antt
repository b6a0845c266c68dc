use Rattle.qrp_rules.proofs.Cited.{take, List, ◌⊎◌, Literal, ◌∈◌, IsTautology}
use Rattle.qrp_rules.proofs.initial.initial_cube_fault.Given as goal

abbrev pub invariant-loop-i : goal.invariant-loop-i
invariant-loop-i l = (c : List Literal) → c ∈ take l.i l.formula.clauses → IsTautology c ⊎ ((m : Literal) × (m ∈ c) × (m ∈ l.set))
