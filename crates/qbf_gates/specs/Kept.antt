-- Gates as they are kept: the name and the kind of each, and a list of inputs for each.
use Rattle.std.specs.Prelude.{ℕ, Bool, true, ◌==◌, List, [], ◌∷◌}
use Rattle.qbf_core.specs.Literal.{Literal}
use Rattle.qbf_core.specs.Blocks.{Block}
use Rattle.qbf_gates.specs.declared.kind.GateKind.{GateKind}
use Rattle.qbf_gates.specs.declared.kind.GateKind.TheVariants.{Choice, Conjunction, Difference, Disjunction}
use Rattle.qbf_gates.specs.Gates.{Gate, And, Or, Xor, Ite}

-- whether a gate of this kind has so many inputs
abbrev pub fits : GateKind → ℕ → Bool
fits Conjunction n = true
fits Disjunction n = true
fits Difference n = n == 2
fits Choice n = n == 3

-- the gate of a kind with these inputs, as many as it has
abbrev pub gate_of : GateKind → List Literal → Gate
gate_of Conjunction ls = And ls
gate_of Disjunction ls = Or ls
gate_of Difference (a ∷ b ∷ []) = Xor a b
gate_of Choice (a ∷ b ∷ c ∷ []) = Ite a b c
gate_of kind ls = And ls

-- the gates of these names and kinds, with these inputs
abbrev pub gates_of : List (ℕ × GateKind) → List (List Literal) → List (ℕ × Gate)
gates_of [] inputs = []
gates_of (k ∷ ks) [] = []
gates_of (k ∷ ks) (ls ∷ inputs) = (k.0, gate_of k.1 ls) ∷ gates_of ks inputs

-- a prefix and gates that are being read, and the inputs of the next gate
pub record GatesSoFar : Type 0 where
  pub blocks : List Block
  pub gates : List (ℕ × Gate)
  pub inputs : List Literal
