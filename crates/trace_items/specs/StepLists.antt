-- The literals and the antecedents of steps.
use Rattle.std.specs.Prelude.{ℕ, List, [], ◌∷◌, ◌++◌, ◌-◌, length, take}
use Rattle.qbf_core.specs.Literal.{Literal}
use Rattle.trace_items.specs.Antecedents.{list_of_pair}
use Rattle.trace_items.specs.declared.antecedents.AntecedentPair.{AntecedentPair}

-- the lists of steps, in their order
pub record ListsOfSteps : Type 0 where
  pub lits : List (List Literal)
  pub ants : List (List ℕ)

-- no steps
abbrev pub no_lists : ListsOfSteps
no_lists = record { lits = []; ants = [] }

-- the lists of one more step
abbrev pub with_lists : ListsOfSteps → List Literal → AntecedentPair → ListsOfSteps
with_lists s lits ants = record { lits = s.lits ++ lits ∷ []; ants = s.ants ++ list_of_pair ants ∷ [] }

-- without those of the last step, if there is one
abbrev pub without_last : ListsOfSteps → ListsOfSteps
without_last s = record { lits = take (length s.lits - 1) s.lits; ants = take (length s.ants - 1) s.ants }
