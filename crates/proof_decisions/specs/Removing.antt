-- How the literals that a step keeps and those that are removed are collected, one after the other.
use Rattle.std.specs.Prelude.{◌≡◌, ◌↔◌, ◌≤◌, ◌+◌, length, ℕ, Option, Some, None, List, [], ◌∷◌, ◌++◌, ◌⊎◌}
use Rattle.qbf_core.specs.Blocks.{Block}
use Rattle.qbf_core.specs.Literal.{Literal}
use Rattle.qbf_core.specs.Members.{◌∈◌, ◌⊆◌}
use Rattle.qbf_core.specs.Qbf.{Qbf}
use Rattle.qbf_core.specs.Rules.{Side, Clauses, Cubes, Clashes, IsClean, IsReducible, IsReduct, reduced_quantifier}
use Rattle.qbf_strategy.specs.Decisions.{decision_by}
use Rattle.trace_items.specs.Inferences.{Inference}
use Rattle.core_walk.specs.Conditions.{lits_of}
use Rattle.written_steps.specs.Seen.{Has, Members}
use Rattle.qrp_rules.specs.Walks.{IsThePivot, TakesOut}
use Rattle.qrp_rules.specs.declared.blocks.Reducible.{Reducible}
use Rattle.proof_decisions.specs.ProofDecisions.{IsDecisionAt}
use Rattle.proof_decisions.specs.declared.origins.Origin.{Origin}
use Rattle.proof_decisions.specs.declared.origins.Origin.TheVariants.{Initial, One, Two}

-- what is left of lits without all that may be taken out
pub record IsLeft (own : Reducible) (lits kept : List Literal) : Type 0 where
  pub within : kept ⊆ lits
  pub stays : (l : Literal) → l ∈ kept → TakesOut own l.var → ⊥
  pub each : (l : Literal) → l ∈ lits → (l ∈ kept) ⊎ TakesOut own l.var
  pub few : length kept ≤ length lits

-- the set has just these literals
abbrev pub HasJust : List Literal → Members → Type 0
HasJust lits seen = (l : Literal) → Has seen l ↔ l ∈ lits

-- the set has just the literals that are kept and those that were removed
abbrev pub Notes : List Literal → List Literal → Members → Type 0
Notes kept removed seen = (l : Literal) → Has seen l ↔ ((l ∈ kept) ⊎ (l ∈ removed))

-- from one list of removed literals to the next: each of some literals is kept or removed, or may be left aside, and no others are removed
pub record Removes (seen new_seen : Members) (removed new_removed some : List Literal) (May : Literal → Type 0) : Type 0 where
  pub notes : (kept : List Literal) → Notes kept removed seen → Notes kept new_removed new_seen
  pub grows : removed ⊆ new_removed
  pub within : (kept : List Literal) → Notes kept removed seen → (l : Literal) → l ∈ new_removed
      → (l ∈ removed) ⊎ ((l ∈ some) × (May l → ⊥) × (l ∈ kept → ⊥))
  pub covers : (kept : List Literal) → Notes kept removed seen → (l : Literal) → l ∈ some → May l ⊎ ((l ∈ kept) ⊎ (l ∈ new_removed))
  pub few : length new_removed ≤ length removed + length some

-- a variable in which two antecedents clash, or none
abbrev pub IsPivotOf : List Literal → List Literal → Option ℕ → Type 0
IsPivotOf a b None = (x : ℕ) → Clashes a b x → ⊥
IsPivotOf a b (Some x) = Clashes a b x

-- a clean clause of the formula, of which the literals are a reduct
abbrev pub IsClauseOf : Qbf → List Literal → List Literal → Type 0
IsClauseOf f lits from = (from ∈ f.clauses) × IsClean from × IsReduct Clauses f.blocks from lits

-- an initial clause comes from a clause of the formula, and an initial cube from itself
abbrev pub IsInitialOf : Side → Qbf → List Literal → List Literal → Type 0
IsInitialOf Clauses f lits from = IsClauseOf f lits from
IsInitialOf Cubes f lits from = from ≡ lits

-- the lists of literals that a step with these antecedents and literals comes from; `before` are the steps before it
abbrev pub ComesFrom : Side → Qbf → List Inference → List ℕ → List Literal → Origin → Type 0
ComesFrom side f before ants lits (Initial from) = (ants ≡ []) × IsInitialOf side f lits from.now
ComesFrom side f before ants lits (One from) = (n : ℕ) × (ants ≡ n ∷ []) × (from.now ≡ lits_of before n)
ComesFrom side f before ants lits (Two a b pivot) = (m : ℕ) × (n : ℕ) × (ants ≡ m ∷ n ∷ []) × (a.now ≡ lits_of before m)
    × (b.now ≡ lits_of before n) × IsPivotOf a.now b.now pivot

-- the pivot may be left aside, and what is reducible in the antecedent
abbrev pub MayLeave : Side → List Block → Option ℕ → List Literal → Literal → Type 0
MayLeave side blocks pivot lits l = IsThePivot pivot l.var ⊎ IsReducible side blocks lits l

-- the literals of all these lists are removed
abbrev pub RemovesAll : Side → List Block → Members → Members → List Literal → List Literal → Origin → Type 0
RemovesAll side blocks seen new_seen removed new_removed (Initial from) = Removes seen new_seen removed new_removed from.now (λ l. ⊥)
RemovesAll side blocks seen new_seen removed new_removed (One from) =
    Removes seen new_seen removed new_removed from.now (MayLeave side blocks None from.now)
RemovesAll side blocks seen new_seen removed new_removed (Two a b pivot) = (between : Members) × (first : List Literal)
    × Removes seen between removed first a.now (MayLeave side blocks pivot a.now)
    × Removes between new_seen first new_removed b.now (MayLeave side blocks pivot b.now)

-- from one list of lists to the next: a list is added
abbrev pub IsAdded : List (List Literal) → List Literal → List (List Literal) → Type 0
IsAdded old list new = new ≡ old ++ list ∷ []

-- lists of what is kept and removed, with one more of each if something is removed
abbrev pub AddsUnlessIdle : (kept removed : List (List Literal)) → (keeps removes : List Literal) → (new_kept new_removed : List (List Literal))
    → Type 0
AddsUnlessIdle kept removed keeps [] new_kept new_removed = (new_kept ≡ kept) × (new_removed ≡ removed)
AddsUnlessIdle kept removed keeps (l ∷ removes) new_kept new_removed = IsAdded kept keeps new_kept × IsAdded removed (l ∷ removes) new_removed

-- lists of what is kept and removed, with those of the step at i, if it decides something
pub record AddsDecision (side : Side) (f : Qbf) (steps : List Inference) (i : ℕ) (kept removed new_kept new_removed : List (List Literal))
    : Type 0 where
  pub keeps : List Literal
  pub removes : List Literal
  pub adds : AddsUnlessIdle kept removed keeps removes new_kept new_removed
  pub decision : IsDecisionAt side f steps i (decision_by (reduced_quantifier side) keeps removes)
