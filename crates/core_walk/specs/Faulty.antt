-- The first step of a core that does not follow.
use Rattle.std.specs.Prelude.{◌≡◌, ℕ, ◌<◌, List}
use Rattle.qbf_core.specs.Qbf.{Qbf}
use Rattle.qbf_core.specs.Rules.{Side}
use Rattle.trace_items.specs.Inferences.{Inference}
use Rattle.qrp_rules.specs.declared.rules.Rules.{Rules}
use Rattle.qrp_rules.specs.declared.fault.RuleFault.{RuleFault}
use Rattle.core_walk.specs.Core.{IsInCore}
use Rattle.core_walk.specs.Conditions.{StepFollows, IsStepFault}

-- the first step of the core that does not follow, by its number and its first fault
pub record IsFirstFaultyStep (rules : Rules) (side : Side) (f : Qbf) (steps : List Inference) (number : ℕ)
    (fault : RuleFault) : Type 0 where
  pub position : ℕ
  pub needed : IsInCore steps position
  pub fails : IsStepFault rules side f steps position fault
  pub numbered : fails.step.number ≡ number
  pub earlier : (j : ℕ) → j < position → IsInCore steps j → StepFollows rules side f steps j
