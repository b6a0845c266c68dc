-- Steps that are much shorter than an antecedent.
use Rattle.std.specs.Prelude.{ℕ, ◌<◌, List, Option, length, take, IfSome}
use Rattle.qbf_core.specs.Literal.{Literal}
use Rattle.qbf_core.specs.Blocks.{Block}
use Rattle.qbf_core.specs.Qbf.{Qbf}
use Rattle.qbf_core.specs.Rules.{Side}
use Rattle.trace_items.specs.Inferences.{Inference, IsAt}
use Rattle.qrp_rules.specs.declared.rules.Rules.{Rules}
use Rattle.qrp_rules.specs.Conditions.{AllHold}
use Rattle.written_steps.specs.Initial.{AreKnown}
use Rattle.written_steps.specs.Parts.{AreParts}
use Rattle.written_steps.specs.declared.parts.Parts.{Parts}
use Rattle.core_walk.specs.Premises.{AreFit, ArePremises, found_conditions, written_conditions}
use Rattle.core_walk.specs.declared.premises.Premises.{Premises}
use Rattle.core_walk.specs.declared.uneven.FoundStep.{FoundStep}
use Rattle.core_walk.specs.declared.uneven.JudgeState.{JudgeState}

-- the premises are those of the step at i
abbrev pub ArePremisesAt : List Inference → ℕ → Option Premises → Type 0
ArePremisesAt steps i found = (step : Inference) → IsAt steps i step → ArePremises (take i steps) step.ants found

-- each part that is kept under the number of a step is one of the literals of that step
abbrev pub ArePartsOf : Side → List Block → List Inference → Parts → Type 0
ArePartsOf side blocks steps kept = (i : ℕ) (step : Inference) → IsAt steps i step → AreParts side blocks kept step.number step.lits

-- the premises are fit, and a step that follows from them follows from those that were found
pub record AreEnough (rules : Rules) (side : Side) (f : Qbf) (found : Option Premises) (lits : List Literal) (short : Premises) : Type 0 where
  pub fit : AreFit f.blocks short
  pub follows : AllHold (written_conditions rules side f short lits) → AllHold (found_conditions rules side f found lits)

-- a step of the trace with its premises, which are fit; and what is kept is of this formula and of these steps
pub record IsToJudge (side : Side) (f : Qbf) (steps : List Inference) (state : JudgeState) (step : FoundStep) : Type 0 where
  pub position : step.position < length steps
  pub are : ArePremisesAt steps step.position step.premises
  pub fit : IfSome step.premises (AreFit f.blocks)
  pub known : AreKnown f state.tests.initial
  pub parts : ArePartsOf side f.blocks steps state.parts
