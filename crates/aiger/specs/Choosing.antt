-- Choices: a wire that has the value of one of two others, by the value of a third (a multiplexer).
use Rattle.std.specs.Prelude.{◌≡◌, ◌<◌, ℕ, Bool, false, not, if◌then◌else◌}
use Rattle.aiger.specs.Building.{Built, Grows, HasValues, next_of}
use Rattle.aiger.specs.Circuits.{Gate, both, gate_value}
use Rattle.aiger.specs.Wires.{Wire, value_at}
use Rattle.aiger.specs.declared.choosing.Branches.{Branches}

-- the value of one of two wires, by that of a third
abbrev pub branch_value : (ℕ → Bool) → Wire → Branches → Bool
branch_value run on b = if value_at run on then value_at run b.yes else value_at run b.no

-- both wires are of variables below n
abbrev pub AreBelow : ℕ → Branches → Type 0
AreBelow n b = (b.yes.var < n) × (b.no.var < n)

-- the gate is the conjunction of the wire w and the other wire, which is one of its own
pub record IsBeside (g : Gate) (w other : Wire) : Type 0 where
  pub below : (n : ℕ) → g.left.var < n → g.right.var < n → other.var < n
  pub value : (run : ℕ → Bool) → gate_value run g ≡ both (value_at run w) (value_at run other)

-- the gate is a choice between two wires, which are wires of it or constant
pub record GateChooses (g : Gate) (on : Wire) (b : Branches) : Type 0 where
  pub below : (n : ℕ) → 0 < n → g.left.var < n → g.right.var < n → AreBelow n b
  pub value : (run : ℕ → Bool) → run 0 ≡ false → gate_value run g ≡ branch_value run on b

-- the conjunction of the opposites of two gates is a choice between two wires of these
pub record BothChoose (l r : Gate) (on : Wire) (b : Branches) : Type 0 where
  pub below : (n : ℕ) → l.left.var < n → l.right.var < n → r.left.var < n → r.right.var < n → AreBelow n b
  pub value : (run : ℕ → Bool) → both (not (gate_value run l)) (not (gate_value run r)) ≡ branch_value run on b

-- the variable v has the value of the gate, and the gate stands on variables that are there
pub record IsGateOf (b : Built) (v : ℕ) (g : Gate) : Type 0 where
  pub left : g.left.var < next_of b
  pub right : g.right.var < next_of b
  pub value : (run : ℕ → Bool) → HasValues b run → run v ≡ gate_value run g

-- the gate is a choice between two wires, if the other gates are kept
pub record ChoosesAmong (b : Built) (g : Gate) (on : Wire) (br : Branches) : Type 0 where
  pub below : AreBelow (next_of b) br
  pub value : (run : ℕ → Bool) → HasValues b run → gate_value run g ≡ branch_value run on br

-- the wire w is a choice between two others
pub record IsChoice (b : Built) (w on : Wire) (br : Branches) : Type 0 where
  pub below : AreBelow (next_of b) br
  pub value : (run : ℕ → Bool) → HasValues b run → value_at run w ≡ branch_value run on br

-- after some gates, the wire w is a choice between two others
pub record IsChosen (old new : Built) (on : Wire) (br : Branches) (w : Wire) : Type 0 where
  pub grows : Grows old new
  pub below : w.var < next_of new
  pub value : (run : ℕ → Bool) → HasValues new run → value_at run w ≡ branch_value run on br
