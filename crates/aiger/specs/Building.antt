-- Gates that are put one after the other.
use Rattle.std.specs.Prelude.{◌≡◌, ℕ, ◌+◌, ◌≤◌, Bool, false, List, ◌++◌, length}
use Rattle.aiger.specs.Wires.{Wire, value_at}
use Rattle.aiger.specs.Circuits.{Gate, AreValues, StandBelow, both, gate_value}

-- gates, and the number of the first
pub record Built : Type 0 where
  pub first : ℕ
  pub gates : List Gate

-- the number of the next gate
abbrev pub next_of : Built → ℕ
next_of b = b.first + length b.gates

-- the values of the variables, with which each gate is kept
abbrev pub HasValues : Built → (ℕ → Bool) → Type 0
HasValues b run = AreValues b.first b.gates run

-- the gates stand on lesser numbers, and AIGER's numbers of their wires fit in 32 bits
pub record AreGates (first : ℕ) (gates : List Gate) : Type 0 where
  pub some : 1 ≤ first
  pub few : first + length gates ≤ 2147483648
  pub below : StandBelow first gates

-- gates with others after them
pub record Grows (old new : Built) : Type 0 where
  pub same : new.first ≡ old.first
  pub more : List Gate
  pub grown : new.gates ≡ old.gates ++ more

-- a gate of two wires, in one order or the other
abbrev pub StandsForBoth : Wire → Wire → Gate → Type 0
StandsForBoth left right g = (run : ℕ → Bool) → gate_value run g ≡ both (value_at run left) (value_at run right)

-- the conjunction of two wires is this wire, if only variable 0 is false
abbrev pub IsFolded : Wire → Wire → Wire → Type 0
IsFolded left right w = (run : ℕ → Bool) → run 0 ≡ false → value_at run w ≡ both (value_at run left) (value_at run right)

-- the wire has the value of a gate
abbrev pub IsGate : Built → Gate → Wire → Type 0
IsGate b g w = (run : ℕ → Bool) → HasValues b run → value_at run w ≡ gate_value run g

-- the wire has in each run the value of both of two others
abbrev pub IsBoth : Built → Wire → Wire → Wire → Type 0
IsBoth b left right w = (run : ℕ → Bool) → HasValues b run → value_at run w ≡ both (value_at run left) (value_at run right)
