use Rattle.qrp_rules.proofs.Cited.{take, List, ◌⊎◌, Literal, ◌∈◌, IsTautology}
use Rattle.written_steps.proofs.cube_fault.find_cube_fault.Given as goal

abbrev pub invariant-loop-place : goal.invariant-loop-place
invariant-loop-place l = (c : List Literal) → c ∈ take l.place l.formula.clauses → IsTautology c ⊎ ((m : Literal) × (m ∈ c) × (m ∈ l.set))
