-- When a trace proves its result, and which fault a check names otherwise.
use Rattle.std.specs.Prelude.{ℕ, Bool, true, false, List}
use Rattle.qbf_core.specs.Blocks.{Block}
use Rattle.qbf_core.specs.Qbf.{Qbf}
use Rattle.qbf_core.specs.Rules.{Side, Clauses, Cubes}
use Rattle.trace_items.specs.declared.item.Outcome.{Outcome}
use Rattle.trace_items.specs.declared.item.Outcome.TheVariants.{Sat, Unsat}
use Rattle.trace_items.specs.Inferences.{Inference}
use Rattle.trace_items.specs.Derivations.{Derivation}
use Rattle.qrp_rules.specs.declared.rules.Rules.{Rules}
use Rattle.core_walk.specs.Core.{IsGoal, IsInCore}
use Rattle.core_walk.specs.Conditions.{StepFollows}
use Rattle.core_walk.specs.Faulty.{IsFirstFaultyStep}
use Rattle.trace_check.specs.declared.fault.CheckFault.{CheckFault}
use Rattle.trace_check.specs.declared.fault.CheckFault.TheVariants.{C1, C2, C3, C4, C5, C6}
use Rattle.trace_check.specs.Sets.{SetsAgree, IsSetFault}

-- a refutation is made of clauses, a proof of truth of cubes
abbrev pub side_of : Outcome → Side
side_of Unsat = Clauses
side_of Sat = Cubes

-- whether a result says that the formula is true
abbrev pub is_sat : Outcome → Bool
is_sat Sat = true
is_sat Unsat = false

-- there is a goal, and each step of the core follows
pub record Derives (rules : Rules) (side : Side) (f : Qbf) (steps : List Inference) : Type 0 where
  pub position : ℕ
  pub is_goal : IsGoal steps position
  pub each : (i : ℕ) → IsInCore steps i → StepFollows rules side f steps i

-- these sets and steps prove this result of f
pub record Proves (rules : Rules) (f : Qbf) (sets : List Block) (steps : List Inference) (result : Outcome) : Type 0 where
  pub agree : SetsAgree f.blocks sets
  pub derives : Derives rules (side_of result) f steps

-- the trace proves its result; its header plays no part
abbrev pub IsProof : Rules → Qbf → Derivation → Type 0
IsProof rules f d = Proves rules f d.sets d.steps d.result

-- the fault that a check names: of the sets, then of the goal, then of the core; a failed allocation is none of these
abbrev pub IsFirstFault : Rules → Qbf → List Block → List Inference → Outcome → CheckFault → Type 0
IsFirstFault rules f sets steps result (C1 v) = IsSetFault f.blocks sets (C1 v)
IsFirstFault rules f sets steps result (C2 v) = IsSetFault f.blocks sets (C2 v)
IsFirstFault rules f sets steps result (C3 v) = IsSetFault f.blocks sets (C3 v)
IsFirstFault rules f sets steps result C4 = SetsAgree f.blocks sets × ((i : ℕ) → IsGoal steps i → ⊥)
IsFirstFault rules f sets steps result C5 = ⊥
IsFirstFault rules f sets steps result (C6 number fault) =
    SetsAgree f.blocks sets × IsFirstFaultyStep rules (side_of result) f steps number fault
