-- Conditions of antecedents, and the meaning of a test that accepts steps as they are written.
use Rattle.std.specs.Prelude.{Bool, IsTrue, List}
use Rattle.qbf_core.specs.Literal.{Literal}
use Rattle.qbf_core.specs.Blocks.{Block, AreBound}
use Rattle.qbf_core.specs.Rules.{IsClean}
use Rattle.qrp_rules.specs.declared.fault.RuleFault.{RuleFault}
use Rattle.qrp_rules.specs.Conditions.{AllHold, Condition}

-- literals that are clean and bound
abbrev pub IsFit : List Block → List Literal → Type 0
IsFit blocks lits = IsClean lits × AreBound blocks lits

-- the literals of a step, as they are written: each condition of its rule holds, and they are clean and bound
pub record IsAcceptedStep (conditions : List (Condition RuleFault)) (blocks : List Block) (lits : List Literal) : Type 0 where
  pub follows : AllHold conditions
  pub clean : IsClean lits
  pub bound : AreBound blocks lits

-- the meaning of a test that accepts steps: if it does not accept one, nothing is said
abbrev pub IsAcceptedBy : List (Condition RuleFault) → List Block → List Literal → Bool → Type 0
IsAcceptedBy conditions blocks lits t = IsTrue t → IsAcceptedStep conditions blocks lits
