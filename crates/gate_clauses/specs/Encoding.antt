-- The formula in clauses of a formula of gates: each gate has a variable of its name, existential and innermost, and clauses that leave it
-- the value that its inputs give (Tseitin 1968); and the output is true.
use Rattle.std.specs.Prelude.{ℕ, List, [], ◌∷◌, ◌++◌, flat_map, map}
use Rattle.qbf_core.specs.declared.quantifier.Quantifier.{Quantifier}
use Rattle.qbf_core.specs.declared.quantifier.Quantifier.TheVariants.{Exists}
use Rattle.qbf_core.specs.Literal.{Literal, positive, negative, negated}
use Rattle.qbf_core.specs.Blocks.{pairs, blocks_of}
use Rattle.qbf_core.specs.Qbf.{Qbf}
use Rattle.qbf_gates.specs.Gates.{Gate, And, Or, Xor, Ite, GateFormula}

-- the clauses of the gate v; a choice has two more than it needs, which spare a solver a step
abbrev pub clauses_of : ℕ → Gate → List (List Literal)
clauses_of v (And ls) = (positive v ∷ map negated ls) ∷ map (λ l. negative v ∷ l ∷ []) ls
clauses_of v (Or ls) = (negative v ∷ ls) ∷ map (λ l. positive v ∷ negated l ∷ []) ls
clauses_of v (Xor a b) =
    (negative v ∷ a ∷ b ∷ [])
    ∷ (negative v ∷ negated a ∷ negated b ∷ [])
    ∷ (positive v ∷ negated a ∷ b ∷ [])
    ∷ (positive v ∷ a ∷ negated b ∷ [])
    ∷ []
clauses_of v (Ite a b c) =
    (negative v ∷ negated a ∷ b ∷ [])
    ∷ (negative v ∷ a ∷ c ∷ [])
    ∷ (positive v ∷ negated a ∷ negated b ∷ [])
    ∷ (positive v ∷ a ∷ negated c ∷ [])
    ∷ (negative v ∷ b ∷ c ∷ [])
    ∷ (positive v ∷ negated b ∷ negated c ∷ [])
    ∷ []

-- the clauses of gates, in their order
abbrev pub gate_clauses : List (ℕ × Gate) → List (List Literal)
gate_clauses gates = flat_map (λ g. clauses_of g.0 g.1) gates

-- the variables of gates
abbrev pub gate_pairs : List (ℕ × Gate) → List (Quantifier × ℕ)
gate_pairs gates = map (λ g. (Exists, g.0)) gates

-- the formula, whose header allows variables up to `top`
abbrev pub encoding : (top : ℕ) → GateFormula → Qbf
encoding top q = record {
  max_var = top;
  blocks = blocks_of (pairs q.blocks ++ gate_pairs q.gates);
  clauses = gate_clauses q.gates ++ (q.output ∷ []) ∷ [];
}
