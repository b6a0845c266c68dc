-- Circuits that compute decisions.
use Rattle.std.specs.Prelude.{◌≡◌, ◌<◌, ◌+◌, ◌*◌, ℕ, suc, Bool, List, [], ◌∷◌, Some, length, map, slice_get}
use Rattle.qbf_core.specs.declared.quantifier.Quantifier.{Quantifier}
use Rattle.qbf_core.specs.Literal.{Literal}
use Rattle.qbf_core.specs.Members.{◌∈◌}
use Rattle.qbf_core.specs.Blocks.{variables}
use Rattle.aiger.specs.Circuits.{Circuit, IsOrdered, IsRun}
use Rattle.aiger.specs.Wires.{Wire, value_at}
use Rattle.qbf_strategy.specs.Decisions.{Decision, decided}
use Rattle.qbf_strategy.specs.Winning.{opponent, set_in_run, variables_of}

-- a circuit has in each run the values that are decided, whatever value a variable has on which nothing is decided
pub record Computes (mine : Quantifier) (ps : List (Quantifier × ℕ)) (ds : List Decision) (c : Circuit) : Type 0 where
  pub inputs : c.inputs ≡ variables_of (opponent mine) ps
  pub outputs : map (λ o. o.0) c.outputs ≡ variables_of mine ps
  pub ordered : IsOrdered c
  pub decides : (o : ℕ × Wire) → o ∈ c.outputs
      → (otherwise : Bool) × ((run : ℕ → Bool) → IsRun c run → value_at run o.1 ≡ decided otherwise ds o.0 (set_in_run c run))

-- u stands before v in the order of the pairs
pub record StandsBefore (ps : List (Quantifier × ℕ)) (u v : ℕ) : Type 0 where
  pub place : ℕ
  pub later : ℕ
  pub here : slice_get (variables ps) place ≡ Some u
  pub there : slice_get (variables ps) later ≡ Some v
  pub before : place < later

-- each variable that a decision sets is among the pairs, and those that the decision sees stand before it
pub record SeesBefore (ps : List (Quantifier × ℕ)) (ds : List Decision) : Type 0 where
  pub bound : (d : Decision) → d ∈ ds → (l : Literal) → l ∈ d.sets → l.var ∈ variables ps
  pub before : (d : Decision) → d ∈ ds → (l : Literal) → l ∈ d.sets → (k : Literal) → k ∈ d.when → StandsBefore ps k.var l.var

-- The size of decisions: one for each, and for each literal that it sets, one more and one for each literal that it sees. The gates of a circuit
-- are no more than these.
abbrev pub size : List Decision → ℕ
size [] = 0
size (d ∷ ds) = suc (length d.sets * suc (length d.when)) + size ds
