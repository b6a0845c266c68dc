-- The literals of the antecedents of a step, and when the step follows from them.
use Rattle.std.specs.Prelude.{◌≡◌, ℕ, List, [], ◌∷◌, Option, Some, None}
use Rattle.qbf_core.specs.Literal.{Literal}
use Rattle.qbf_core.specs.Members.{◌∈◌}
use Rattle.qbf_core.specs.Blocks.{Block, AreBound}
use Rattle.qbf_core.specs.Qbf.{Qbf}
use Rattle.qbf_core.specs.Rules.{Side, IsClean}
use Rattle.qbf_core.specs.Sets.{HasMembersOf}
use Rattle.trace_items.specs.Inferences.{Inference}
use Rattle.qrp_rules.specs.declared.rules.Rules.{Rules}
use Rattle.qrp_rules.specs.declared.fault.RuleFault.{RuleFault}
use Rattle.qrp_rules.specs.declared.fault.RuleFault.TheVariants.{S1, S2, S3}
use Rattle.written_steps.specs.Accepted.{IsFit}
use Rattle.qrp_rules.specs.Conditions.{Condition, initial_condition, reduct_conditions, resolvent_conditions}
use Rattle.core_walk.specs.Conditions.{IsNumberOf, lits_of}
use Rattle.core_walk.specs.declared.premises.Premises.{Premises}
use Rattle.core_walk.specs.declared.premises.Premises.TheVariants.{Initial, One, Two}

-- the literals have the members of the earlier step with this number
abbrev pub IsPremise : List Inference → ℕ → List Literal → Type 0
IsPremise before n lits = IsNumberOf before n × HasMembersOf lits (lits_of before n)

-- the premises have the members of each antecedent; there are none if some antecedent is not an earlier step
abbrev pub ArePremises : List Inference → List ℕ → Option Premises → Type 0
ArePremises before ants None = ((n : ℕ) → n ∈ ants → IsNumberOf before n) → ⊥
ArePremises before ants (Some Initial) = ants ≡ []
ArePremises before ants (Some (One from)) = (n : ℕ) × (ants ≡ n ∷ []) × IsPremise before n from.now
ArePremises before ants (Some (Two a b)) =
    (m : ℕ) × (n : ℕ) × (ants ≡ m ∷ n ∷ []) × IsPremise before m a.now × IsPremise before n b.now

-- the literals of each antecedent are clean and bound
abbrev pub AreFit : List Block → Premises → Type 0
AreFit blocks Initial = Unit {0}
AreFit blocks (One from) = IsFit blocks from.now
AreFit blocks (Two a b) = IsFit blocks a.now × IsFit blocks b.now

-- the conditions of the rules on literals that are to follow from these antecedents
abbrev pub premise_conditions : Rules → Side → Qbf → Premises → List Literal → List (Condition RuleFault)
premise_conditions rules side f Initial lits = initial_condition side f lits ∷ []
premise_conditions rules side f (One from) lits = reduct_conditions side f.blocks from.now lits
premise_conditions rules side f (Two a b) lits = resolvent_conditions rules side f.blocks a.now b.now lits

-- the conditions of a step whose antecedents were found
abbrev pub written_conditions : Rules → Side → Qbf → Premises → List Literal → List (Condition RuleFault)
written_conditions rules side f premises lits =
    (S1, IsClean lits) ∷ (S2, AreBound f.blocks lits) ∷ premise_conditions rules side f premises lits

-- the conditions of a step: if an antecedent is not an earlier step, no antecedents are found, and S3 fails
abbrev pub found_conditions : Rules → Side → Qbf → Option Premises → List Literal → List (Condition RuleFault)
found_conditions rules side f None lits = (S1, IsClean lits) ∷ (S2, AreBound f.blocks lits) ∷ (S3, ⊥) ∷ []
found_conditions rules side f (Some premises) lits = written_conditions rules side f premises lits
