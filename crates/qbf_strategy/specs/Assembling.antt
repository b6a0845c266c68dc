-- How a circuit is assembled from decisions: wires of variables, conditions, and what is decided on a variable.
use Rattle.std.specs.Prelude.{◌≡◌, ℕ, drop, ◌<◌, ◌≤◌, Bool, true, List, [], ◌∷◌, Some, slice_get, map, length}
use Rattle.std.specs.List.{All}
use Rattle.qbf_core.specs.declared.quantifier.Quantifier.{Quantifier}
use Rattle.qbf_core.specs.Blocks.{variables}
use Rattle.qbf_core.specs.Literal.{Literal}
use Rattle.qbf_core.specs.Members.{◌∈◌}
use Rattle.aiger.specs.Circuits.{both}
use Rattle.aiger.specs.Wires.{Wire, turned, value_at}
use Rattle.qbf_completeness.specs.Setting.{are_set, is_set}
use Rattle.qbf_strategy.specs.declared.placed.Placed.{Placed}
use Rattle.qbf_strategy.specs.Decisions.{wanted}

-- the variable v stands at the place i
abbrev pub IsAt : List (Quantifier × ℕ) → ℕ → ℕ → Type 0
IsAt ps i v = (q : Quantifier) × (slice_get ps i ≡ Some (q, v))

-- the variable v is one of a prefix, and stands before the place n
pub record StandsAmong (ps : List (Quantifier × ℕ)) (n v : ℕ) : Type 0 where
  pub there : v ∈ variables ps
  pub before : (i : ℕ) → IsAt ps i v → i < n

-- the literals of a condition are of variables that stand before the place n
abbrev pub AreAmong : List (Quantifier × ℕ) → ℕ → Quantifier → List Literal → Type 0
AreAmong ps n mine lits = (l : Literal) → l ∈ lits → StandsAmong ps n (wanted mine l).var

-- The wires of the first variables tell in a run which of their literals are among those of s. Each literal that can be made of these
-- variables is meant.
abbrev pub Tells : List (Quantifier × ℕ) → List Wire → (ℕ → Bool) → List Literal → Type 0
Tells ps ws run s = (i v : ℕ) (w : Wire) → IsAt ps i v → slice_get ws i ≡ Some w
    → (negative : Bool) → value_at run (turned w negative) ≡ is_set (record { var = v; negative = negative }) s

-- all of these wires are true
abbrev pub all_true : (ℕ → Bool) → List Wire → Bool
all_true run [] = true
all_true run (w ∷ ws) = both (value_at run w) (all_true run ws)

-- the wires are of variables below n
abbrev pub AllBelow : ℕ → List Wire → Type 0
AllBelow n ws = All (λ w. w.var < n) ws

-- the wire has the value of a literal, if wires tell those before it
abbrev pub TellsLiteral : List (Quantifier × ℕ) → List Wire → Literal → Wire → Type 0
TellsLiteral ps ws l w = (run : ℕ → Bool) (s : List Literal) → Tells ps ws run s → value_at run w ≡ is_set l s

-- these wires are all true exactly if all the literals are set
abbrev pub TellAll : List (Quantifier × ℕ) → List Wire → List Literal → List Wire → Type 0
TellAll ps ws ls some = (run : ℕ → Bool) (s : List Literal) → Tells ps ws run s → all_true run some ≡ are_set ls s

-- these wires and the literals from place i on are true together exactly if all the literals are
abbrev pub TellWithRest : List (Quantifier × ℕ) → List Wire → Quantifier → List Literal → ℕ → List Wire → Type 0
TellWithRest ps ws mine lits i some = (run : ℕ → Bool) (s : List Literal) → Tells ps ws run s
    → both (all_true run some) (are_set (map (wanted mine) (drop i lits)) s) ≡ are_set (map (wanted mine) lits) s

-- the wires of placed literals
abbrev pub wires_of : List Placed → List Wire
wires_of placed = map (λ p. p.wire) placed

-- these wires are those of literals, as the player wants them, but for the literals from place i on; no more than there are
pub record ArePlacedBefore (ps : List (Quantifier
    × ℕ)) (ws : List Wire) (mine : Quantifier) (lits : List Literal) (i : ℕ) (some : List Wire)
    : Type 0 where
  pub tell : TellWithRest ps ws mine lits i some
  pub below : (n : ℕ) → AllBelow n ws → AllBelow n some
  pub count : length some ≤ i
  pub few : length some ≤ length lits

-- these wires are those of literals, as the player wants them
pub record ArePlaced (ps : List (Quantifier
    × ℕ)) (ws : List Wire) (mine : Quantifier) (lits : List Literal) (some : List Wire) : Type 0 where
  pub tell : TellAll ps ws (map (wanted mine) lits) some
  pub below : (n : ℕ) → AllBelow n ws → AllBelow n some
  pub few : length some ≤ length lits
