-- Steps that are kept with each of their literals once.
use Rattle.std.specs.Prelude.{◌≡◌, ℕ, List, Some, length, slice_get}
use Rattle.qbf_core.specs.Literal.{Literal}
use Rattle.qbf_core.specs.Sets.{HasMembersOf}
use Rattle.trace_items.specs.Inferences.{Inference, IsAt}
use Rattle.core_walk.specs.declared.distinct_lits.DistinctLits.{DistinctLits}

-- these literals are kept of the step at position p
pub record IsKeptAt (kept : DistinctLits) (p : ℕ) (lits : List Literal) : Type 0 where
  pub index : ℕ
  pub place : slice_get kept.positions.items index ≡ Some p
  pub list : slice_get kept.lists.whole index ≡ Some lits

-- a list has the members of the step at position p
abbrev pub HasMembersAt : List Inference → ℕ → List Literal → Type 0
HasMembersAt steps p lits = (step : Inference) → IsAt steps p step → HasMembersOf lits step.lits

-- each list that is kept of a step has the members of that step, and there are as many lists as positions
pub record AreKept (steps : List Inference) (kept : DistinctLits) : Type 0 where
  pub count : length kept.positions.items ≡ length kept.lists.whole
  pub same : (p : ℕ) (lits : List Literal) → IsKeptAt kept p lits → HasMembersAt steps p lits
