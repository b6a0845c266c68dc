-- The names that the proofs cite most, passed on from one place. Declares nothing.
pub use Rattle.qbf_core.proofs.Bound.{bound_each, bound_within}
pub use Rattle.qbf_core.proofs.Inferences.{from_without, in_without}
pub use Rattle.qbf_core.proofs.Members.{any_members, append_left, append_right, each_more, each_within, got_in, in_append, in_at, in_got}
pub use Rattle.qbf_core.proofs.Members.{in_take_all, in_take_more, lit_test, take_more_in, take_within}
pub use Rattle.qbf_core.proofs.Order.{clash_here, clean_from_same, clean_within, ordered_push}
pub use Rattle.qbf_core.specs.Blocks.{AreBound, Binds, Block}
pub use Rattle.qbf_core.specs.Literal.{Literal, negated, negative, positive}
pub use Rattle.qbf_core.specs.Members.{◌∈◌, ◌⊆◌}
pub use Rattle.qbf_core.specs.Qbf.{Qbf}
pub use Rattle.qbf_core.specs.Rules.{Clashes, Clauses, Cubes, IsClean, IsInitial, IsOnlyClash, IsReducible, IsReduct, IsTautology, Side}
pub use Rattle.qbf_core.specs.Rules.{deciding_quantifier, reduced_quantifier, resolvent}
pub use Rattle.qbf_core.specs.Sets.{HasMembersOf, IsOrdered}
pub use Rattle.qbf_core.specs.declared.quantifier.Quantifier.{Quantifier}
pub use Rattle.qbf_core.specs.declared.quantifier.Quantifier.TheVariants.{Exists}
pub use Rattle.qrp_rules.specs.Conditions.{AllHold, AllowsPivot, Condition, IsFirstFailure, IsFaultOf, IsReducibleInParents}
pub use Rattle.qrp_rules.specs.Conditions.{initial_condition, reduct_conditions, resolvent_conditions}
pub use Rattle.qrp_rules.specs.Walks.{Accounts, IsHeldBefore, IsInnermost, MayOmit, StandsAfter, TakesOut}
pub use Rattle.qrp_rules.specs.declared.fault.RuleFault.{RuleFault}
pub use Rattle.qrp_rules.specs.declared.fault.RuleFault.TheVariants.{S10, S11, S12}
pub use Rattle.qrp_rules.specs.declared.rules.Rules.{Rules}
pub use Rattle.std.proofs.Common.{Bool, Contains, Err, IfOk, IsTrue, List, None, Ok, Option, Result, Some, [], ap, arith, drop, false}
pub use Rattle.std.proofs.Common.{get_or, inl, inr, length, refl, rules, slice_get, subst, suc, sym, take, tests, true, zero, ℕ, ◌&&◌, ◌++◌}
pub use Rattle.std.proofs.Common.{◌+◌, ◌-◌, ◌<◌, ◌↔◌, ◌∙◌, ◌∷◌, ◌≡◌, ◌≤◌, ◌⊎◌}
pub use Rattle.std.proofs.Math.ListN.{set}
pub use Rattle.std.proofs.lemmas.Bool.{MatchBool-at_true, cases_eq, eqb-true, false≢true, true≢false}
pub use Rattle.std.proofs.lemmas.Grind.{common_steps}
pub use Rattle.std.proofs.lemmas.Iterator.{YieldsList-from_slice, cases_from_all, cases_from_any}
pub use Rattle.std.proofs.lemmas.List.{drop_more, length-set, take-append-drop}
pub use Rattle.std.proofs.lemmas.List.Elements.{Contains-push}
pub use Rattle.std.proofs.lemmas.Option.{get_or_from_slice_get, slice_get_read, slice_get_within}
