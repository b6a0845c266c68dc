-- The decisions of a proof: one for each step of its core, in order.
use Rattle.std.specs.Prelude.{◌≡◌, ◌≤◌, length, ℕ, List, [], ◌∷◌, ◌⊎◌, map, take}
use Rattle.qbf_core.specs.Literal.{Literal}
use Rattle.qbf_core.specs.Members.{◌∈◌, ◌⊆◌}
use Rattle.qbf_core.specs.Blocks.{Block, Binds}
use Rattle.qbf_core.specs.Qbf.{Qbf}
use Rattle.qbf_core.specs.Rules.{Side, Clauses, Cubes, IsClean, IsReducible, Clashes, deciding_quantifier, reduced_quantifier}
use Rattle.qbf_strategy.specs.Decisions.{Decision, wanted}
use Rattle.trace_items.specs.Inferences.{Inference, IsAt}
use Rattle.core_walk.specs.Conditions.{lits_of}
use Rattle.trace_check.specs.Sets.{IsNotAfter}
use Rattle.proof_decisions.specs.Sizes.{literals_before}

-- some literal of the deciding quantifier among lits is in the block of k or further in; it may be k itself
abbrev pub IsNeeded : Side → List Block → List Literal → Literal → Type 0
IsNeeded side blocks lits k = (m : Literal) × (m ∈ lits) × Binds blocks (deciding_quantifier side) m.var × IsNotAfter blocks k.var m.var

-- `kept` is what is left of lits without all that is reducible
pub record IsFullyReduced (side : Side) (blocks : List Block) (lits kept : List Literal) : Type 0 where
  pub within : kept ⊆ lits
  pub needed : (k : Literal) → k ∈ kept → IsNeeded side blocks lits k
  pub each : (l : Literal) → l ∈ lits → (l ∈ kept) ⊎ IsReducible side blocks lits l

-- each literal of an antecedent is kept or removed, but for some, and for those that are reducible in the antecedent
abbrev pub CoversParent : Side → List Block → List Literal → List Literal → List Literal → (Literal → Type 0) → Type 0
CoversParent side blocks parent kept removed but =
    (l : Literal) → l ∈ parent → but l ⊎ ((l ∈ kept) ⊎ ((l ∈ removed) ⊎ IsReducible side blocks parent l))

-- two antecedents are covered, but for their pivot
abbrev pub CoversBoth : Side → List Block → List Literal → List Literal → List Literal → List Literal → Type 0
CoversBoth side blocks a b kept removed = (x : ℕ) → Clashes a b x
    → CoversParent side blocks a kept removed (λ l. l.var ≡ x) × CoversParent side blocks b kept removed (λ l. l.var ≡ x)

-- for an initial clause, a clause of the formula is covered; an initial cube is covered itself
abbrev pub CoversInitial : Side → Qbf → List Literal → List Literal → List Literal → Type 0
CoversInitial Clauses f lits kept removed =
    (clause : List Literal) × (clause ∈ f.clauses) × ((l : Literal) → l ∈ clause → (l ∈ kept) ⊎ (l ∈ removed))
CoversInitial Cubes f lits kept removed = (l : Literal) → l ∈ lits → (l ∈ kept) ⊎ (l ∈ removed)

-- what a step follows from is covered by the literals that are kept of it and those that are removed
abbrev pub Covers : Side → Qbf → List Inference → List ℕ → List Literal → List Literal → List Literal → Type 0
Covers side f before [] lits kept removed = CoversInitial side f lits kept removed
Covers side f before (m ∷ []) lits kept removed = CoversParent side f.blocks (lits_of before m) kept removed (λ l. ⊥)
Covers side f before (m ∷ n ∷ more) lits kept removed = CoversBoth side f.blocks (lits_of before m) (lits_of before n) kept removed

-- The decision of a step: if the literals that are kept are set as the player wants them, so are those that are removed to be. These have
-- the player's quantifier, and every literal of the step with the deciding quantifier is in an earlier block. None is listed more often than
-- in what the step comes from.
pub record IsDecisionOf (side : Side) (f : Qbf) (before : List Inference) (step : Inference) (d : Decision) : Type 0 where
  pub kept : List Literal
  pub removed : List Literal
  pub reduced : IsFullyReduced side f.blocks step.lits kept
  pub reducible : (l : Literal) → l ∈ removed → IsReducible side f.blocks step.lits l
  pub clean : IsClean removed
  pub few_kept : length kept ≤ length step.lits
  pub few_removed : length removed ≤ literals_before side f before step.ants step.lits
  pub covers : Covers side f before step.ants step.lits kept removed
  pub when : d.when ≡ map (wanted (reduced_quantifier side)) kept
  pub sets : d.sets ≡ map (wanted (reduced_quantifier side)) removed

-- the decision of the step at i
pub record IsDecisionAt (side : Side) (f : Qbf) (steps : List Inference) (i : ℕ) (d : Decision) : Type 0 where
  pub step : Inference
  pub here : IsAt steps i step
  pub decision : IsDecisionOf side f (take i steps) step d

-- a decision in front of others, if it sets these literals and they are some
abbrev pub unless_idle : Decision → List Literal → List Decision → List Decision
unless_idle d [] ds = ds
unless_idle d (l ∷ ls) ds = d ∷ ds

-- decisions without those that set nothing
abbrev pub without_idle : List Decision → List Decision
without_idle [] = []
without_idle (d ∷ ds) = unless_idle d d.sets (without_idle ds)

-- the decisions of the steps at these positions
abbrev pub AreDecisionsOf : Side → Qbf → List Inference → List ℕ → List Decision → Type 0
AreDecisionsOf side f steps [] [] = Unit {0}
AreDecisionsOf side f steps [] (d ∷ ds) = ⊥
AreDecisionsOf side f steps (i ∷ core) [] = ⊥
AreDecisionsOf side f steps (i ∷ core) (d ∷ ds) = IsDecisionAt side f steps i d × AreDecisionsOf side f steps core ds

-- the decisions of the steps at these positions, without those that set nothing
abbrev pub AreAllThatSet : Side → Qbf → List Inference → List ℕ → List Decision → Type 0
AreAllThatSet side f steps core set = (ds : List Decision) × AreDecisionsOf side f steps core ds × (set ≡ without_idle ds)
