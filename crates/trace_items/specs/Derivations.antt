-- A trace (QRP) as contracts see it: its header, its sets, its steps and its result.
use Rattle.std.specs.Prelude.{◌<◌, ◌^◌, ℕ, List, [], ◌∷◌, ◌++◌, map, length, nat_eq, slice_get}
use Rattle.std.specs.List.{AllByRecursion, IsDistinct, filter_map}
use Rattle.qbf_core.specs.Blocks.{Block, IsVariable}
use Rattle.trace_items.specs.declared.item.Header.{Header}
use Rattle.trace_items.specs.declared.item.Outcome.{Outcome}
use Rattle.trace_items.specs.declared.item.Item.{Item}
use Rattle.trace_items.specs.declared.item.Item.TheVariants as item
use Rattle.trace_items.specs.Inferences.{Inference, IsInference, numbers}

-- a trace: its header, its sets and steps as written, and its result
pub record Derivation : Type 0 where
  pub header : Header
  pub sets : List Block
  pub steps : List Inference
  pub result : Outcome

-- sets and steps that keep the rules of the grammar: numbers in range, at most two antecedents, and no two steps with the same number
pub record AreGrammatical (sets : List Block) (steps : List Inference) : Type 0 where
  pub variables : AllByRecursion (λ s. AllByRecursion IsVariable s.vars) sets
  pub inferences : AllByRecursion IsInference steps
  pub distinct : IsDistinct nat_eq (numbers steps)

-- every number is a number of 64 bits
pub record FitsIn64 (d : Derivation) : Type 0 where
  pub vars : d.header.vars < 2 ^ 64
  pub steps : d.header.steps < 2 ^ 64
  pub numbers_fit : AllByRecursion (λ n. n < 2 ^ 64) (numbers d.steps)
  pub ants_fit : AllByRecursion (λ s. AllByRecursion (λ n. n < 2 ^ 64) s.ants) d.steps
  pub count : length d.steps < 2 ^ 64

-- the invariant of a kept trace: it keeps the rules of the grammar, and its numbers have 64 bits
pub record IsWellFormed (d : Derivation) : Type 0 where
  pub grammatical : AreGrammatical d.sets d.steps
  pub fits : FitsIn64 d

-- the items of a header, sets and steps, in order
abbrev pub items_of_lists : Header → List Block → List Inference → List Item
items_of_lists h sets steps = item.Header h ∷ (map item.Set sets ++ map item.Step steps)

-- the parts of a trace in order: its header, its sets, its steps and its result
abbrev pub items_of : Derivation → List Item
items_of d = item.Header d.header ∷ map item.Set d.sets ++ map item.Step d.steps ++ item.Result d.result ∷ []

-- the steps at these positions
abbrev pub steps_at : List Inference → List ℕ → List Inference
steps_at steps positions = filter_map (slice_get steps) positions

-- the trace with the steps at these positions alone, and their count in its header
abbrev pub with_steps_at : Derivation → List ℕ → Derivation
with_steps_at d positions = record d {
  header = record { vars = d.header.vars; steps = length (steps_at d.steps positions) };
  steps = steps_at d.steps positions;
}
