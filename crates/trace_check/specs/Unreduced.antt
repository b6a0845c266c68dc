-- The rules if two parents are resolved as they stand: a step is a reduct of their resolvent, and nothing is reduced before.
use Rattle.std.specs.Prelude.{ℕ, List, [], ◌∷◌, take}
use Rattle.qbf_core.specs.Literal.{Literal}
use Rattle.qbf_core.specs.Members.{◌∈◌}
use Rattle.qbf_core.specs.Blocks.{Block, AreBound}
use Rattle.qbf_core.specs.Qbf.{Qbf}
use Rattle.qbf_core.specs.Rules.{Side, IsClean}
use Rattle.trace_items.specs.declared.item.Outcome.{Outcome}
use Rattle.trace_items.specs.Inferences.{Inference, IsAt}
use Rattle.qrp_rules.specs.declared.rules.Rules.{Rules}
use Rattle.qrp_rules.specs.declared.fault.RuleFault.{RuleFault}
use Rattle.core_walk.specs.Conditions.{IsNumberOf, lits_of}
use Rattle.qrp_rules.specs.Conditions.{Condition, AllHold, initial_condition, reduct_conditions}
use Rattle.qrp_rules.specs.Unreduced.{unreduced_conditions}
use Rattle.core_walk.specs.Core.{IsGoal, IsInCore}
use Rattle.trace_check.specs.Proof.{side_of}
use Rattle.trace_check.specs.Sets.{SetsAgree}

-- the conditions by the number of antecedents, as in `antecedent_conditions`
abbrev pub unreduced_antecedents : Rules → Side → Qbf → List Inference → List ℕ → List Literal → List (Condition RuleFault)
unreduced_antecedents rules side f before [] lits = initial_condition side f lits ∷ []
unreduced_antecedents rules side f before (m ∷ []) lits = reduct_conditions side f.blocks (lits_of before m) lits
unreduced_antecedents rules side f before (m ∷ n ∷ more) lits =
    unreduced_conditions rules side f.blocks (lits_of before m) (lits_of before n) lits

-- the step at i follows from those before it, with its parents as they stand
pub record FollowsUnreduced (rules : Rules) (side : Side) (f : Qbf) (steps : List Inference) (i : ℕ) : Type 0 where
  pub step : Inference
  pub here : IsAt steps i step
  pub clean : IsClean step.lits
  pub bound : AreBound f.blocks step.lits
  pub numbers : (n : ℕ) → n ∈ step.ants → IsNumberOf (take i steps) n
  pub all : AllHold (unreduced_antecedents rules side f (take i steps) step.ants step.lits)

-- these sets and steps prove this result of f, with parents as they stand
pub record ProvesUnreduced (rules : Rules) (f : Qbf) (sets : List Block) (steps : List Inference) (result : Outcome) : Type 0 where
  pub agree : SetsAgree f.blocks sets
  pub position : ℕ
  pub is_goal : IsGoal steps position
  pub each : (i : ℕ) → IsInCore steps i → FollowsUnreduced rules (side_of result) f steps i
