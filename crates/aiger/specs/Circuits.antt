-- Circuits of AND gates without latches, as AIGER writes them (Biere 2007; version 1.9: Biere, Heljanko, Wieringa 2011).
use Rattle.std.specs.Prelude.{◌≡◌, ℕ, suc, ◌+◌, ◌<◌, ◌≤◌, Bool, false, if◌then◌else◌, List, [], ◌∷◌, length}
use Rattle.std.specs.List.{AllByRecursion}
use Rattle.aiger.specs.Wires.{Wire, value_at}
pub use Rattle.aiger.specs.declared.circuit.Gate.{Gate}

-- The inputs are numbered from 1, and the gates after them. Each input and each output has a name, which is a number.
pub record Circuit : Type 0 where
  pub inputs : List ℕ
  pub outputs : List (ℕ × Wire)
  pub gates : List Gate

-- the conjunction of two truth values
abbrev pub both : Bool → Bool → Bool
both a b = if a then b else false

-- the value of a gate, by those of the variables: the conjunction of its two wires
abbrev pub gate_value : (ℕ → Bool) → Gate → Bool
gate_value run g = both (value_at run g.left) (value_at run g.right)

-- the gates, the first of which has the number n, give these values
abbrev pub KeepsGates : ℕ → List Gate → (ℕ → Bool) → Type 0
KeepsGates n [] run = Unit {0}
KeepsGates n (g ∷ gates) run = (run n ≡ gate_value run g) × KeepsGates (suc n) gates run

-- values of variables: variable 0 is false, and each gate is kept, the first of which has this number
pub record AreValues (first : ℕ) (gates : List Gate) (run : ℕ → Bool) : Type 0 where
  pub constant : run 0 ≡ false
  pub keeps : KeepsGates first gates run

-- each gate stands on variables of numbers below its own; the first has the number n
abbrev pub StandBelow : ℕ → List Gate → Type 0
StandBelow n [] = Unit {0}
StandBelow n (g ∷ gates) = (g.left.var < n) × (g.right.var < n) × StandBelow (suc n) gates

-- the number of a circuit's first gate
abbrev pub first_gate : Circuit → ℕ
first_gate c = suc (length c.inputs)

-- the values of a circuit's variables in a run
abbrev pub IsRun : Circuit → (ℕ → Bool) → Type 0
IsRun c run = AreValues (first_gate c) c.gates run

-- A circuit that AIGER takes: each gate stands on variables before it, the outputs are among the variables, and the literals of all variables
-- fit in 32 bits.
pub record IsOrdered (c : Circuit) : Type 0 where
  pub gates : StandBelow (first_gate c) c.gates
  pub outputs : AllByRecursion (λ o. o.1.var < first_gate c + length c.gates) c.outputs
  pub few : first_gate c + length c.gates ≤ 2147483648
