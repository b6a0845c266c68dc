-- Marks on the steps of a trace.
use Rattle.std.specs.Prelude.{◌≡◌, ◌↔◌, ℕ, ◌<◌, Bool, true, List, length, slice_get, slice_set, Option, Some, None}
use Rattle.qbf_core.specs.Members.{◌∈◌}
use Rattle.trace_items.specs.Inferences.{Inference, IsAt}
use Rattle.core_walk.specs.Core.{IsInCore}

-- the step at i is marked
abbrev pub IsMarked : List Bool → ℕ → Type 0
IsMarked marks i = slice_get marks i ≡ Some true

-- each step has a flag, and just the steps of the core are marked
pub record MarksCore (steps : List Inference) (marks : List Bool) : Type 0 where
  pub whole : length marks ≡ length steps
  pub core : (i : ℕ) → IsMarked marks i ↔ IsInCore steps i

-- j is before i, and the step there has one of these numbers
pub record IsNamed (steps : List Inference) (i : ℕ) (numbers : List ℕ) (j : ℕ) : Type 0 where
  pub before : j < i
  pub step : Inference
  pub here : IsAt steps j step
  pub named : step.number ∈ numbers

-- the marks, with the step that was found marked too, if there is one
abbrev pub with_mark : List Bool → Option ℕ → List Bool
with_mark marks None = marks
with_mark marks (Some p) = slice_set marks p true
