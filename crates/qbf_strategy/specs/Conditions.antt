-- Gates of conditions, and of what is decided under them.
use Rattle.std.specs.Prelude.{◌≡◌, ℕ, ◌<◌, ◌≤◌, ◌+◌, Bool, if◌then◌else◌, List, [], Some, slice_get, get_or, map, ◌⊎◌, drop, false}
use Rattle.std.specs.Prelude.{length}
use Rattle.qbf_core.specs.declared.quantifier.Quantifier.{Quantifier}
use Rattle.qbf_core.specs.Blocks.{pairs}
use Rattle.qbf_core.specs.Literal.{Literal}
use Rattle.aiger.specs.Building.{Built, Grows, HasValues, next_of}
use Rattle.aiger.specs.Circuits.{both}
use Rattle.aiger.specs.Wires.{Wire, constant, value_at}
use Rattle.qbf_completeness.specs.Setting.{are_set}
use Rattle.qbf_strategy.specs.Decisions.{wanted}
use Rattle.qbf_strategy.specs.Assembling.{AreAmong, Tells, all_true}
use Rattle.qbf_strategy.specs.Costs.{cost}
use Rattle.qbf_strategy.specs.declared.placed.Here.{Here}

-- a player, the pairs of a prefix, the wires of the first of them, and the literals that decisions see
pub record Scene : Type 0 where
  pub mine : Quantifier
  pub ps : List (Quantifier × ℕ)
  pub ws : List Wire
  pub kept : List (List Literal)

abbrev pub scene : Quantifier → List (Quantifier × ℕ) → List Wire → List (List Literal) → Scene
scene mine ps ws kept = record { mine = mine; ps = ps; ws = ws; kept = kept }

-- the scene of a task, with the wires of the first variables
abbrev pub scene_of : Here → Scene
scene_of here = scene here.task.mine (pairs here.task.prefix.now) here.known.now here.task.kept.now.whole

-- the decision k is there, and sees only variables that have a wire
pub record IsReady (at : Scene) (k : ℕ) : Type 0 where
  pub there : k < length at.kept
  pub among : (lits : List Literal) → slice_get at.kept k ≡ Some lits → AreAmong at.ps (length at.ws) at.mine lits

-- after some gates, no more than wires, the wire is the conjunction of these wires
pub record IsConjunction (old new : Built) (ws : List Wire) (w : Wire) : Type 0 where
  pub grows : Grows old new
  pub below : w.var < next_of new
  pub value : (run : ℕ → Bool) → HasValues new run → value_at run w ≡ all_true run ws
  pub few : next_of new ≤ next_of old + length ws

-- after some gates, the wire is the conjunction of the wires before place i
pub record IsConjunctionBefore (old new : Built) (ws : List Wire) (i : ℕ) (w : Wire) : Type 0 where
  pub grows : Grows old new
  pub below : w.var < next_of new
  pub value : (run : ℕ → Bool) → HasValues new run → both (value_at run w) (all_true run (drop i ws)) ≡ all_true run ws
  pub count : next_of new ≤ next_of old + i
  pub few : next_of new ≤ next_of old + length ws

-- the wire tells whether all literals are set as the player wants them
pub record IsCondition (at : Scene) (b : Built) (lits : List Literal) (w : Wire) : Type 0 where
  pub below : w.var < next_of b
  pub value : (run : ℕ → Bool) (s : List Literal) → HasValues b run → Tells at.ps at.ws run s
      → value_at run w ≡ are_set (map (wanted at.mine) lits) s

-- the wires of conditions, by decision; that of one that was not built is the constant false
abbrev pub AreConditions : Scene → Built → List Wire → Type 0
AreConditions at b conditions = (k : ℕ) (w : Wire) (lits : List Literal) → slice_get conditions k ≡ Some w → slice_get at.kept k ≡ Some lits
    → (w ≡ constant false) ⊎ IsCondition at b lits w

-- whether the condition of the decision k holds
abbrev pub fires : Scene → List Literal → ℕ → Bool
fires at s k = are_set (map (wanted at.mine) (get_or at.kept k [])) s

-- after some gates, no more than the decision sees literals, the wire is the condition of the decision k
pub record GivesCondition (at : Scene) (k : ℕ) (old new : Built) (conditions : List Wire) (w : Wire) : Type 0 where
  pub grows : Grows old new
  pub known : AreConditions at new conditions
  pub below : w.var < next_of new
  pub value : (run : ℕ → Bool) (s : List Literal) → HasValues new run → Tells at.ps at.ws run s → value_at run w ≡ fires at s k
  pub few : next_of new ≤ next_of old + length (get_or at.kept k [])

-- after one gate at most, the wire has this value if a condition holds, and else that of another wire
pub record IsEither (old new : Built) (condition : Wire) (value : Bool) (after w : Wire) : Type 0 where
  pub grows : Grows old new
  pub below : w.var < next_of new
  pub chooses : (run : ℕ → Bool) → HasValues new run
      → value_at run w ≡ (if value_at run condition then value else value_at run after)
  pub few : next_of new ≤ next_of old + 1

-- after some gates, the wire has this value if the condition of the decision k holds, and else that of another wire
pub record IsDecided (at : Scene) (k : ℕ) (value : Bool) (after : Wire) (old new : Built) (conditions : List Wire) (w : Wire) : Type 0 where
  pub grows : Grows old new
  pub known : AreConditions at new conditions
  pub below : w.var < next_of new
  pub chooses : (run : ℕ → Bool) (s : List Literal) → HasValues new run → Tells at.ps at.ws run s
      → value_at run w ≡ (if fires at s k then value else value_at run after)
  pub few : next_of new ≤ next_of old + cost at.kept k

-- items with this one at the place k, if they reach that far
abbrev pub KeptFrom : {X : Type 0} → List X → List X → ℕ → X → Type 0
KeptFrom {X} old new k x = (i : ℕ) (y : X) → slice_get new i ≡ Some y → ((i ≡ k) × (y ≡ x)) ⊎ (slice_get old i ≡ Some y)

-- no gates, of which the first will have this number, and no conditions
pub record IsUnused (first : ℕ) (b : Built) (conditions : List Wire) : Type 0 where
  pub none : b ≡ record { first = first; gates = [] }
  pub unbuilt : (k : ℕ) (w : Wire) → slice_get conditions k ≡ Some w → w ≡ constant false
