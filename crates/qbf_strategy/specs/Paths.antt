-- Paths into gates that choose, at whose end a wire is changed.
use Rattle.std.specs.Prelude.{◌≡◌, ℕ, ◌<◌, Bool, true, if◌then◌else◌, List, [], ◌∷◌, ◌++◌, drop}
use Rattle.std.specs.List.{AllByRecursion}
use Rattle.aiger.specs.Building.{Built, Grows, HasValues, next_of}
use Rattle.aiger.specs.Circuits.{both}
use Rattle.aiger.specs.Wires.{Wire, value_at}
use Rattle.qbf_strategy.specs.declared.path.Path.{Path}
use Rattle.qbf_strategy.specs.declared.path.Turn.{Turn}
use Rattle.qbf_strategy.specs.Assembling.{Tells, all_true}
use Rattle.qbf_strategy.specs.Chains.{Chain, Sayings, evaluated}
use Rattle.qbf_strategy.specs.Chosen.{AreReady}
use Rattle.qbf_strategy.specs.Conditions.{Scene, fires}
use Rattle.qbf_strategy.specs.declared.entries.Entry.{Entry}
use Rattle.qbf_core.specs.Literal.{Literal}

-- the value at the beginning of turns, if it is x after them
abbrev pub inside : (ℕ → Bool) → List Turn → Bool → Bool
inside run [] x = x
inside run (t ∷ ts) x = if value_at run t.wire then inside run ts x else value_at run t.other

-- the value at the beginning of a path
abbrev pub value_by : (ℕ → Bool) → Path → Bool
value_by run p = inside run p.turns.items (value_at run p.end)

-- whether all turns are taken
abbrev pub all_taken : (ℕ → Bool) → List Turn → Bool
all_taken run [] = true
all_taken run (t ∷ ts) = both (value_at run t.wire) (all_taken run ts)

-- the wires of turns are of variables below n
abbrev pub TurnsBelow : ℕ → List Turn → Type 0
TurnsBelow n ts = AllByRecursion (λ t. (t.wire.var < n) × (t.other.var < n)) ts

-- the wires of a path are of variables below n
pub record StandsBelow (n : ℕ) (p : Path) : Type 0 where
  pub turns : TurnsBelow n p.turns.items
  pub end : p.end.var < n

-- the turns are on the first i wires: all wires are true exactly if the turns are taken and the wires from place i on are true
abbrev pub TakesFirst : List Wire → ℕ → List Turn → Type 0
TakesFirst ws i ts = (run : ℕ → Bool) → all_true run ws ≡ both (all_taken run ts) (all_true run (drop i ws))

-- after some gates, another path has the same value at its beginning
pub record IsMoved (old new : Built) (before after : Path) : Type 0 where
  pub grows : Grows old new
  pub below : StandsBelow (next_of new) after
  pub value : (run : ℕ → Bool) → HasValues new run → value_by run after ≡ value_by run before

-- one turn more, on this wire
pub record HasTurned (on : Wire) (before after : List Turn) : Type 0 where
  pub turn : Turn
  pub same : turn.wire ≡ on
  pub more : after ≡ before ++ turn ∷ []

-- after some gates, the beginning of a path has this value if all the wires are true, and else the value that it had
pub record IsSet (ws : List Wire) (given : Bool) (old new : Built) (before after : Path) : Type 0 where
  pub grows : Grows old new
  pub below : StandsBelow (next_of new) after
  pub value : (run : ℕ → Bool) → HasValues new run
      → value_by run after ≡ (if all_true run ws then given else value_by run before)

-- after some gates, the beginning of a path has this value if the condition of the decision k holds, and else the value that it had
pub record IsEntered (at : Scene) (k : ℕ) (given : Bool) (old new : Built) (before after : Path) : Type 0 where
  pub grows : Grows old new
  pub below : StandsBelow (next_of new) after
  pub value : (run : ℕ → Bool) (s : List Literal) → HasValues new run → Tells at.ps at.ws run s
      → value_by run after ≡ (if fires at s k then given else value_by run before)

-- what is left of the literals, and the value that the others give at the beginning of a path
pub record IsLeftInside (at : Scene) (es : List Entry) (number : ℕ) (otherwise : Bool) (now : Built) (p : Path) (v : ℕ) (said : Sayings)
    : Type 0 where
  pub left : Sayings
  pub chain : Chain es v number left
  pub value : (run : ℕ → Bool) (s : List Literal) → HasValues now run → Tells at.ps at.ws run s
      → evaluated (fires at s) v (value_by run p) left ≡ evaluated (fires at s) v otherwise said
  pub ready : AreReady at v said → AreReady at v left

-- after some gates, the beginning of a path has the value that the entries after this one give their variable
pub record IsChosenInside (at : Scene) (es : List Entry) (last number : ℕ) (otherwise : Bool) (old now : Built) (p : Path) : Type 0 where
  pub grows : Grows old now
  pub below : StandsBelow (next_of now) p
  pub rest : (v : ℕ) (said : Sayings) → Chain es v last said → IsLeftInside at es number otherwise now p v said
