-- The result or the quantifier that a caller in C gives by a truth value, and what is known of all that was handed over.
use Rattle.std.specs.Prelude.{Bool, true, false, List, [], ℕ, ◌<◌, length}
use Rattle.std.specs.List.{AllByRecursion}
use Rattle.trace_items.specs.Inferences.{Inference}
use Rattle.core_walk.specs.Core.{ListsCore}
use Rattle.trace_check.specs.Proof.{Proves}
use Rattle.qrp_rules.specs.declared.rules.Rules.{Rules}
use Rattle.qbf_core.specs.declared.quantifier.Quantifier.{Quantifier}
use Rattle.qbf_core.specs.declared.quantifier.Quantifier.TheVariants.{All, Exists}
use Rattle.qbf_core.specs.Qbf.{Qbf, IsWellFormed}
use Rattle.trace_items.specs.Derivations.{Derivation}
use Rattle.trace_items.specs.Derivations as traces
use Rattle.trace_items.specs.declared.item.Outcome.{Outcome}
use Rattle.trace_items.specs.declared.item.Outcome.TheVariants.{Sat, Unsat}

-- the result that a caller claims of the formula
abbrev pub outcome_of : Bool → Outcome
outcome_of true = Sat
outcome_of false = Unsat

-- the quantifier of a variable
abbrev pub quantifier_of : Bool → Quantifier
quantifier_of true = All
quantifier_of false = Exists

-- a closed prenex formula within the bounds of QDIMACS 1.1, and steps of a trace, each with a number of its own
abbrev pub AreWellFormed : Qbf → Derivation → Type 0
AreWellFormed f d = IsWellFormed f × traces.IsWellFormed d

-- the steps prove the result of f, and those at these positions are the ones that the proof needs
pub record HasCore (rules : Rules) (f : Qbf) (steps : List Inference) (result : Outcome) (core : List ℕ) : Type 0 where
  pub proves : Proves rules f [] steps result
  pub lists : ListsCore steps core
  pub within : AllByRecursion (λ i. i < length steps) core
