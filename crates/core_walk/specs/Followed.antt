-- How far the core was followed.
use Rattle.std.specs.Prelude.{ℕ, ◌<◌, List, Option, take}
use Rattle.qbf_core.specs.Qbf.{Qbf}
use Rattle.qbf_core.specs.Rules.{Side}
use Rattle.trace_items.specs.Inferences.{Inference, IsAt}
use Rattle.written_steps.specs.Initial.{AreKnown}
use Rattle.qrp_rules.specs.Conditions.{IsFaultOf}
use Rattle.qrp_rules.specs.declared.fault.RuleFault.{RuleFault}
use Rattle.qrp_rules.specs.declared.rules.Rules.{Rules}
use Rattle.core_walk.specs.Conditions.{step_conditions, StepFollows}
use Rattle.core_walk.specs.Core.{IsInCore}
use Rattle.core_walk.specs.Faulty.{IsFirstFaultyStep}
use Rattle.core_walk.specs.declared.fault.CoreFault.{CoreFault}
use Rattle.core_walk.specs.declared.fault.CoreFault.TheVariants.{OutOfMemory, Step}
use Rattle.core_walk.specs.declared.following.WalkState.{WalkState}
use Rattle.core_walk.specs.DistinctLits.{AreKept}
use Rattle.core_walk.specs.Uneven.{ArePartsOf}

-- the steps of the core before position i follow, so they are clean and bound; and what is kept is of this formula and of these steps
pub record IsFollowed (rules : Rules) (side : Side) (f : Qbf) (steps : List Inference) (i : ℕ) (state : WalkState) : Type 0 where
  pub follows : (j : ℕ) → j < i → IsInCore steps j → StepFollows rules side f steps j
  pub known : AreKnown f state.judged.tests.initial
  pub parts : ArePartsOf side f.blocks steps state.judged.parts
  pub kept : AreKept steps state.distinct

-- the answer for the step at position i: the first condition of the rules that it does not meet, or that it meets all
abbrev pub IsAnswerAt : Rules → Side → Qbf → List Inference → ℕ → Option RuleFault → Type 0
IsAnswerAt rules side f steps i answer =
    (step : Inference) → IsAt steps i step → IsFaultOf (step_conditions rules side f (take i steps) step) answer

-- the fault of a core: that of its first step that does not follow, or a failed allocation
abbrev pub IsCoreFault : Rules → Side → Qbf → List Inference → CoreFault → Type 0
IsCoreFault rules side f steps OutOfMemory = Unit {0}
IsCoreFault rules side f steps (Step number fault) = IsFirstFaultyStep rules side f steps number fault
