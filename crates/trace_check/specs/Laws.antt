-- Laws of verdicts, by any rules: the core keeps the truth, proofs are sound, there is one verdict, and trimming and wider rules keep it.
use Rattle.std.specs.Prelude.{◌≡◌, ◌↔◌, ℕ, ◌<◌, nat_eq, IsTrue, List, ◌++◌, length}
use Rattle.std.specs.List.{IsDistinct}
use Rattle.qbf_core.specs.Blocks.{Block}
use Rattle.qbf_core.specs.Literal.{Literal}
use Rattle.qbf_core.specs.Members.{◌∈◌}
use Rattle.qbf_core.specs.Qbf.{Qbf, IsClosed}
use Rattle.qbf_core.specs.Rules.{Side, Clauses, Cubes}
use Rattle.qbf_core.specs.Truth.{IsTrueFormula, ResultHolds}
use Rattle.qbf_core.specs.Laws.{IsTrueWith, IsTrueBeside}
use Rattle.trace_items.specs.declared.item.Outcome.{Outcome}
use Rattle.trace_items.specs.Inferences.{Inference, IsAt, numbers}
use Rattle.trace_items.specs.Derivations.{Derivation}
use Rattle.qrp_rules.specs.declared.rules.Rules.{Rules}
use Rattle.qrp_rules.specs.declared.fault.RuleFault.{RuleFault}
use Rattle.trace_check.specs.declared.fault.CheckFault.{CheckFault}
use Rattle.core_walk.specs.Core.{IsInCore, ListsCore}
use Rattle.core_walk.specs.Conditions.{StepFollows, IsStepFault}
use Rattle.trace_check.specs.Proof.{side_of, Derives, Proves, IsProof, IsFirstFault}
use Rattle.trace_check.specs.Trim.{trimmed_trace}
use Rattle.trace_check.specs.Unreduced.{ProvesUnreduced}

-- the formula with these literal sets is true: as clauses they join its matrix, as cubes they stand beside it
abbrev pub IsTrueWithSets : Side → Qbf → List (List Literal) → Type 0
IsTrueWithSets Clauses f sets = IsTrueWith f.blocks (sets ++ f.clauses)
IsTrueWithSets Cubes f sets = IsTrueBeside f sets

-- each of these is the list of the literals of a step of the core
abbrev pub AreOfCore : List Inference → List (List Literal) → Type 0
AreOfCore steps sets = (lits : List Literal) → lits ∈ sets
    → (i : ℕ) × (step : Inference) × IsInCore steps i × IsAt steps i step × (step.lits ≡ lits)

-- The steps of the core can be added one by one: whichever are added, in the order of the trace or in any other, the truth stays.
abbrev pub CoreKeepsTheTruth : Type 0
CoreKeepsTheTruth = (rules : Rules) (side : Side) (f : Qbf) (steps : List Inference) (sets : List (List Literal)) → IsClosed f
    → Derives rules side f steps → AreOfCore steps sets → IsTrueFormula f ↔ IsTrueWithSets side f sets

-- a trace that proves its result states the truth of the formula
abbrev pub Soundness : Type 0
Soundness = (rules : Rules) (f : Qbf) (sets : List Block) (steps : List Inference) (result : Outcome) → IsClosed f
    → Proves rules f sets steps result → ResultHolds (side_of result) f

-- a step that follows has no fault, and no step has two
abbrev pub StepFaultsExclude : Type 0
StepFaultsExclude = (rules : Rules) (side : Side) (f : Qbf) (steps : List Inference) (i : ℕ) (a b : RuleFault)
    → (StepFollows rules side f steps i → IsStepFault rules side f steps i a → ⊥)
    × (IsStepFault rules side f steps i a → IsStepFault rules side f steps i b → a ≡ b)

-- a trace that proves its result has no fault, and no trace has two first faults
abbrev pub VerdictIsOne : Type 0
VerdictIsOne = (rules : Rules) (f : Qbf) (sets : List Block) (steps : List Inference) (result : Outcome) (a b : CheckFault)
    → (Proves rules f sets steps result → IsFirstFault rules f sets steps result a → ⊥)
    × (IsFirstFault rules f sets steps result a → IsFirstFault rules f sets steps result b → a ≡ b)

-- a trimmed trace proves the same result, and needs all of its steps
abbrev pub TrimmingKeeps : Type 0
TrimmingKeeps = (rules : Rules) (f : Qbf) (d : Derivation) (core : List ℕ)
    → IsDistinct nat_eq (numbers d.steps) → ListsCore d.steps core → IsProof rules f d
    → IsProof rules f (trimmed_trace d core)
    × ((k : ℕ) → k < length (trimmed_trace d core).steps → IsInCore (trimmed_trace d core).steps k)

-- trimming again changes nothing
abbrev pub TrimmedIsFixed : Type 0
TrimmedIsFixed = (rules : Rules) (f : Qbf) (d : Derivation) (core again : List ℕ)
    → IsDistinct nat_eq (numbers d.steps) → ListsCore d.steps core → IsProof rules f d → ListsCore (trimmed_trace d core).steps again
    → trimmed_trace (trimmed_trace d core) again ≡ trimmed_trace d core

-- a trace that proves its result with parents as they stand proves it too if these may be reduced before they are resolved
abbrev pub ReducedParentsKeep : Type 0
ReducedParentsKeep = (rules : Rules) (f : Qbf) (sets : List Block) (steps : List Inference) (result : Outcome)
    → ProvesUnreduced rules f sets steps result → Proves rules f sets steps result

-- a trace that proves its result by some rules proves it by all rules that allow at least the same pivots
abbrev pub MorePivotsKeep : Type 0
MorePivotsKeep = (rules wider : Rules) (f : Qbf) (sets : List Block) (steps : List Inference) (result : Outcome)
    → (IsTrue rules.any_pivot → IsTrue wider.any_pivot)
    → Proves rules f sets steps result → Proves wider f sets steps result
