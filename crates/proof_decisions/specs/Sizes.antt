-- How many gates the circuit of a proof needs at most.
use Rattle.std.specs.Prelude.{ℕ, suc, ◌+◌, ◌*◌, ◌≤◌, max, List, [], ◌∷◌, Option, Some, None, length, slice_get, take}
use Rattle.qbf_core.specs.Blocks.{pairs, variables}
use Rattle.qbf_core.specs.Literal.{Literal}
use Rattle.qbf_core.specs.Qbf.{Qbf}
use Rattle.qbf_core.specs.Rules.{Side, Clauses, Cubes}
use Rattle.trace_items.specs.Derivations.{Derivation}
use Rattle.trace_items.specs.Inferences.{Inference}
use Rattle.core_walk.specs.Conditions.{lits_of}
use Rattle.core_walk.specs.Core.{ListsCore}
use Rattle.trace_check.specs.Proof.{side_of}

-- how many literals the longest of some lists has
abbrev pub longest : List (List Literal) → ℕ
longest [] = 0
longest (ls ∷ lists) = max (length ls) (longest lists)

-- how many literals the antecedents have
abbrev pub literals_of : List Inference → List ℕ → ℕ
literals_of before [] = 0
literals_of before (m ∷ ms) = length (lits_of before m) + literals_of before ms

-- how many literals there are that an initial step comes from: those of the longest clause of the formula, or of the cube itself
abbrev pub initial_literals : Side → Qbf → List Literal → ℕ
initial_literals Clauses f lits = longest f.clauses
initial_literals Cubes f lits = length lits

-- how many literals there are that a step comes from
abbrev pub literals_before : Side → Qbf → List Inference → List ℕ → List Literal → ℕ
literals_before side f before [] lits = initial_literals side f lits
literals_before side f before (m ∷ ms) lits = literals_of before (m ∷ ms)

-- the size of a step: one, and for each literal that it comes from, one and one for each of its own literals
abbrev pub step_size : Side → Qbf → List Inference → Option Inference → ℕ
step_size side f before None = 0
step_size side f before (Some step) = suc (literals_before side f before step.ants step.lits * suc (length step.lits))

-- the size of the steps at some positions
abbrev pub core_size : Side → Qbf → List Inference → List ℕ → ℕ
core_size side f steps [] = 0
core_size side f steps (i ∷ core) = step_size side f (take i steps) (slice_get steps i) + core_size side f steps core

-- AIGER may not have enough numbers: the variables and the size of the steps that the proof needs come to 2147483647 or more
abbrev pub IsTooLong : Qbf → Derivation → Type 0
IsTooLong f d = (core : List ℕ) × ListsCore d.steps core
    × (2147483647 ≤ length (variables (pairs f.blocks)) + core_size (side_of d.result) f d.steps core)
