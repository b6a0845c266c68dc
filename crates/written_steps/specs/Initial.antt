-- The state that is kept of a formula while its initial steps are looked for, the steps that are accepted, and the clauses they come from.
use Rattle.std.specs.Prelude.{ℕ, Bool, IsTrue, List, [], ◌∷◌}
use Rattle.qbf_core.specs.Literal.{Literal}
use Rattle.qbf_core.specs.Qbf.{Qbf}
use Rattle.qbf_core.specs.Rules.{Clauses}
use Rattle.written_steps.specs.declared.initial_steps.InitialSteps.{InitialSteps}
use Rattle.written_steps.specs.Accepted.{IsAcceptedStep, IsFit}
use Rattle.qrp_rules.specs.Conditions.{initial_condition}
use Rattle.qrp_rules.specs.Reducts.{IsReductAt}
use Rattle.written_steps.specs.Watches.{IsWatching}

-- all that is kept is of this formula
abbrev pub AreKnown : Qbf → InitialSteps → Type 0
AreKnown f steps = IsWatching f steps.cubes

-- the literals are those of an initial clause, clean and bound
abbrev pub IsAccepted : Qbf → List Literal → Type 0
IsAccepted f lits = IsAcceptedStep (initial_condition Clauses f lits ∷ []) f.blocks lits

-- the meaning of a test that accepts initial clauses: if it does not accept one, nothing is said
abbrev pub IsAcceptedIf : Qbf → List Literal → Bool → Type 0
IsAcceptedIf f lits t = IsTrue t → IsAccepted f lits

-- the literals are clean and bound, too
abbrev pub IsAcceptedAt : Qbf → List Literal → ℕ → Type 0
IsAcceptedAt f lits position = IsReductAt f lits position × IsFit f.blocks lits
