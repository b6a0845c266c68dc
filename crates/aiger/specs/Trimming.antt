-- Circuits without the gates that no output needs.
use Rattle.std.specs.Prelude.{◌≡◌, ℕ, ◌+◌, ◌<◌, ◌≤◌, Bool, true, false, List, [], ◌∷◌, Some, slice_get, map, length, ◌⊎◌}
use Rattle.aiger.specs.Building.{AreGates}
use Rattle.aiger.specs.Circuits.{AreValues, Circuit, Gate, IsOrdered, IsRun, gate_value}
use Rattle.aiger.specs.Wires.{Wire, constant, plain, value_at}

-- two runs have the same values of the variables below n
abbrev pub Agree : ℕ → (ℕ → Bool) → (ℕ → Bool) → Type 0
Agree n run other = (k : ℕ) → k < n → run k ≡ other k

-- a circuit with the same inputs and outputs: in runs with the same values of the inputs the outputs have the same values
pub record IsSameCircuit (c d : Circuit) : Type 0 where
  pub inputs : d.inputs ≡ c.inputs
  pub names : map (λ o. o.0) d.outputs ≡ map (λ o. o.0) c.outputs
  pub ordered : IsOrdered d
  pub values : (run other : ℕ → Bool) → IsRun c run → IsRun d other → ((k : ℕ) → 1 ≤ k → k ≤ length c.inputs → run k ≡ other k)
      → map (λ o. value_at other o.1) d.outputs ≡ map (λ o. value_at run o.1) c.outputs

-- the wire of other gates has the value of a wire
pub record IsSame (first : ℕ) (old gates : List Gate) (v w : Wire) : Type 0 where
  pub below : w.var < first + length gates
  pub value : (run other : ℕ → Bool) → AreValues first old run → AreValues first gates other → Agree first run other
      → value_at other w ≡ value_at run v

-- the wires of variables among other gates, by number; the constant true is none
abbrev pub AreSame : ℕ → List Gate → List Gate → List Wire → Type 0
AreSame first old gates ws = (n : ℕ) (w : Wire) → slice_get ws n ≡ Some w
    → (w ≡ constant true) ⊎ IsSame first old gates (record { var = n; negated = false }) w

-- some of the old gates among other gates, with their wires
pub record IsTrimming (first : ℕ) (old gates : List Gate) (ws : List Wire) : Type 0 where
  pub sound : AreGates first gates
  pub same : AreSame first old gates ws

-- outputs with the same names, whose wires have the same values
abbrev pub OutputsSame : ℕ → List Gate → List Gate → List (ℕ × Wire) → List (ℕ × Wire) → Type 0
OutputsSame first old gates [] [] = Unit {0}
OutputsSame first old gates [] (d ∷ ds) = ⊥
OutputsSame first old gates (o ∷ os) [] = ⊥
OutputsSame first old gates (o ∷ os) (d ∷ ds) = (d.0 ≡ o.0) × IsSame first old gates o.1 d.1 × OutputsSame first old gates os ds

-- the wire of other gates has the value of a gate
pub record IsSameGate (first : ℕ) (old gates : List Gate) (g : Gate) (w : Wire) : Type 0 where
  pub below : w.var < first + length gates
  pub value : (run other : ℕ → Bool) → AreValues first old run → AreValues first gates other → Agree first run other
      → value_at other w ≡ gate_value run g

-- a gate is put, and the wire is its own; or it is the constant true
pub record PutsGate (first : ℕ) (g : Gate) (gates new : List Gate) (ws : List Wire) (w : Wire) : Type 0 where
  pub still : (old : List Gate) → IsTrimming first old gates ws → IsTrimming first old new ws
  pub is : (old : List Gate) → IsTrimming first old gates ws → (w ≡ constant true) ⊎ IsSameGate first old new g w

-- the next gate is put, or left out
pub record AddsGate (first : ℕ) (g : Gate) (gates new : List Gate) (ws more : List Wire) : Type 0 where
  pub count : length more ≡ length ws + 1
  pub still : (old : List Gate) (i : ℕ) → slice_get old i ≡ Some g → first + i ≡ length ws → IsTrimming first old gates ws
      → IsTrimming first old new more

-- no gates yet, and the wires of the constant and the inputs
pub record IsUntrimmed (first : ℕ) (gates : List Gate) (ws : List Wire) : Type 0 where
  pub none : gates ≡ []
  pub count : length ws ≡ first
  pub wires : (n : ℕ) (w : Wire) → slice_get ws n ≡ Some w → (w ≡ plain n) × (n < first)
