-- Formulas of gates: closed prenex formulas in QCIR-14 (Jordan, Klieber, Seidl 2016) as contracts see them. Names are numbers.
use Rattle.std.specs.Prelude.{◌≡◌, ℕ, true, List, [], ◌∷◌, ◌++◌, map, nat_eq}
use Rattle.std.specs.List.{AllByRecursion, IsDistinct, list_any}
use Rattle.qbf_core.specs.Literal.{Literal}
use Rattle.qbf_core.specs.Blocks.{Block, IsPrefix, IsVariable, pairs, variables}

-- what a gate computes of its inputs, which are variables, gates before it, or their negations
pub data Gate : Type 0 where
  And Or : List Literal → Gate
  Xor : Literal → Literal → Gate
  Ite : Literal → Literal → Literal → Gate

-- the prefix, the gates in their order, each with its name, and the output
pub record GateFormula : Type 0 where
  pub blocks : List Block
  pub gates : List (ℕ × Gate)
  pub output : Literal

-- the inputs of a gate
abbrev pub inputs_of : Gate → List Literal
inputs_of (And ls) = ls
inputs_of (Or ls) = ls
inputs_of (Xor a b) = a ∷ b ∷ []
inputs_of (Ite a b c) = a ∷ b ∷ c ∷ []

-- the names of gates
abbrev pub gate_names : List (ℕ × Gate) → List ℕ
gate_names gates = map (λ g. g.0) gates

-- the names of a formula: variables, and gates after them
abbrev pub names : GateFormula → List ℕ
names q = variables (pairs q.blocks) ++ gate_names q.gates

-- the literal is of one of these names
abbrev pub IsOf : List ℕ → Literal → Type 0
IsOf known l = list_any (λ v. nat_eq l.var v) known ≡ true

-- the inputs of each gate are of names that are known before it
abbrev pub StandInOrder : List ℕ → List (ℕ × Gate) → Type 0
StandInOrder known [] = Unit {0}
StandInOrder known (g ∷ gates) = AllByRecursion (IsOf known) (inputs_of g.1) × StandInOrder (g.0 ∷ known) gates

-- No name is given twice, gates stand in order, and all names are in the range of QDIMACS.
pub record IsWellFormed (q : GateFormula) : Type 0 where
  pub prefix : IsPrefix q.blocks
  pub distinct : IsDistinct nat_eq (names q)
  pub within : AllByRecursion IsVariable (gate_names q.gates)
  pub order : StandInOrder (variables (pairs q.blocks)) q.gates
  pub output : IsOf (names q) q.output
