-- The names that the proofs cite most, passed on from one place. Declares nothing.
pub use Rattle.core_walk.specs.Conditions.{IsNumberOf, StepFollows, lits_of, step_conditions}
pub use Rattle.core_walk.specs.Core.{IsGoal, IsInCore, Needs, goal, next}
pub use Rattle.core_walk.specs.Marks.{IsMarked}
pub use Rattle.core_walk.specs.Premises.{premise_conditions}
pub use Rattle.qbf_core.proofs.Bound.{bound_each}
pub use Rattle.lists.proofs.PushedItems.{at_place}
pub use Rattle.qbf_core.proofs.Members.{in_push, in_take, push_in, take_in}
pub use Rattle.qbf_core.specs.Blocks.{AreBound, Block, IsBound}
pub use Rattle.qbf_core.specs.Literal.{Literal}
pub use Rattle.qbf_core.specs.Members.{◌∈◌, ◌⊆◌}
pub use Rattle.qbf_core.specs.Qbf.{Qbf}
pub use Rattle.qbf_core.specs.Rules.{IsClean, Side}
pub use Rattle.trace_items.proofs.Positions.{own_numbers}
pub use Rattle.trace_items.specs.Inferences.{Inference, IsAt, numbers}
pub use Rattle.qrp_rules.proofs.MembersDecide.{reduct_answer, resolvent_answer, same_self}
pub use Rattle.qrp_rules.specs.Conditions.{IsFaultOf, resolvent_conditions}
pub use Rattle.qrp_rules.specs.declared.fault.RuleFault.{RuleFault}
pub use Rattle.qrp_rules.specs.declared.rules.Rules.{Rules}
pub use Rattle.std.proofs.Common.{Bool, List, None, Option, Some, [], ap, arith, false, get_or, inl, inr, length, nat_eq}
pub use Rattle.std.proofs.Common.{refl, rules, subst, suc, sym, take, true, zero, ℕ, ◌++◌, ◌+◌, ◌<◌, ◌↔◌, ◌∙◌, ◌∷◌, ◌≡◌, ◌≤◌, ◌⊎◌}
pub use Rattle.std.proofs.lemmas.Bool.{cases_eq}
pub use Rattle.std.proofs.lemmas.Grind.{common_steps}
pub use Rattle.std.proofs.lemmas.Option.{get_or_from_slice_get, slice_get-get_or, slice_get_within}
pub use Rattle.std.specs.Prelude.{Err, IfOk, IfSome, Ok, Result, slice_get}
