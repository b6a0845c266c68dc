-- The names that the proofs cite most, passed on from one place. Declares nothing.
pub use Rattle.core_walk.specs.Conditions.{IsNumberOf, StepFollows, antecedent_conditions, lits_of, step_conditions}
pub use Rattle.core_walk.specs.Core.{IsGoal, IsInCore, ListsCore, Needs, goal, next}
pub use Rattle.core_walk.specs.Marks.{IsMarked}
pub use Rattle.qbf_core.proofs.Bound.{bound_each}
pub use Rattle.lists.proofs.PushedItems.{at_place}
pub use Rattle.qbf_core.proofs.Members.{append_left, append_right, in_append, in_push, in_take, push_in, take_in}
pub use Rattle.qbf_core.specs.Blocks.{AreBound, Block, IsBound, pairs, pairs_of_block}
pub use Rattle.qbf_core.specs.Literal.{Literal}
pub use Rattle.qbf_core.specs.Members.{◌∈◌, ◌⊆◌}
pub use Rattle.qbf_core.specs.Qbf.{IsClosed, Qbf}
pub use Rattle.qbf_core.specs.Rules.{Clashes, Clauses, Cubes, IsClean, IsInitial, IsReduct, Side, resolvent}
pub use Rattle.qbf_core.specs.Truth.{IsTrueFormula, ResultHolds}
pub use Rattle.qbf_core.specs.declared.quantifier.Quantifier.{Quantifier}
pub use Rattle.trace_items.proofs.Positions.{HasOwnNumbers, own_numbers}
pub use Rattle.trace_items.specs.Derivations.{Derivation, steps_at}
pub use Rattle.trace_items.specs.Inferences.{Inference, IsAt, numbers}
pub use Rattle.trace_items.specs.declared.item.Outcome.{Outcome}
pub use Rattle.trace_check.specs.Laws.{AreOfCore, CoreKeepsTheTruth, IsTrueWithSets}
pub use Rattle.trace_check.specs.Marks.{ListsMarked}
pub use Rattle.trace_check.specs.Passed.{FailsIn, Passes}
pub use Rattle.trace_check.specs.Proof.{Derives, IsFirstFault, Proves, side_of}
pub use Rattle.trace_check.specs.Sets.{SetsAgree}
pub use Rattle.trace_check.specs.declared.fault.CheckFault.TheVariants.{C1, C2, C3, C4, C5, C6}
pub use Rattle.trace_check.specs.declared.fault.CheckFault.{CheckFault}
pub use Rattle.trace_check.specs.declared.verified.Verified.{Verified}
pub use Rattle.qrp_rules.proofs.FirstFailures.{no_fault, one_fault}
pub use Rattle.qrp_rules.specs.Conditions.{AllHold, IsFirstFailure, initial_condition, reduct_conditions, resolvent_conditions}
pub use Rattle.qrp_rules.specs.declared.fault.RuleFault.{RuleFault}
pub use Rattle.qrp_rules.specs.declared.rules.Rules.{Rules}
pub use Rattle.std.proofs.Common.{Bool, IsTrue, List, None, Option, Some, [], ap, arith, drop, false, get_or, inl, inr, length, nat_eq}
pub use Rattle.std.proofs.Common.{refl, rules, subst, suc, sym, take, true, zero, ℕ, ◌++◌, ◌+◌, ◌<◌, ◌↔◌, ◌∙◌, ◌∷◌, ◌≡◌, ◌≢◌, ◌≤◌, ◌⊎◌}
pub use Rattle.std.proofs.lemmas.Bool.{cases_eq, cases_order, false≢true}
pub use Rattle.std.proofs.lemmas.Grind.{common_steps}
pub use Rattle.std.proofs.lemmas.List.{take_all, take_more}
pub use Rattle.std.proofs.lemmas.Option.{get_or_from_slice_get, slice_get_cases, slice_get_within}
pub use Rattle.std.specs.List.{AllByRecursion}
pub use Rattle.std.specs.Prelude.{Err, IfOk, IfSome, Ok, Result, slice_get}
