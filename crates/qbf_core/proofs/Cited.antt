-- The names that the proofs cite most, passed on from one place. Declares nothing.
pub use Rattle.qbf_core.specs.Blocks.{Alternates, AreBound, Block, IsBound, IsPrefix, IsVariable, block_in, blocks_of, is_bound}
pub use Rattle.qbf_core.specs.Blocks.{is_quantifier, pairs, quantifier_in, variables}
pub use Rattle.qbf_core.specs.Literal.{Literal, literal_eq, negated, negative, positive}
pub use Rattle.qbf_core.specs.Members.{◌∈◌, ◌⊆◌}
pub use Rattle.qbf_core.specs.Places.{FitsTable, IsBeyond, IsIndexOf, IsNumbered, IsTable, number_after, pair_of, pairs_of}
pub use Rattle.qbf_core.specs.Qbf.{Qbf}
pub use Rattle.qbf_core.specs.Rules.{Clashes, Clauses, Cubes, IsClean, IsTotal, Side, deciding_quantifier, reduced_quantifier, resolvent}
pub use Rattle.qbf_core.specs.Sets.{HasMembersOf, IsOrdered}
pub use Rattle.qbf_core.specs.Truth.{ClauseHolds, IsTrueFormula, IsTrueFrom, MatrixHolds}
pub use Rattle.qbf_core.specs.WrittenLiterals.{IsWritten, literal_of}
pub use Rattle.qbf_core.specs.declared.place.Place.{Place}
pub use Rattle.qbf_core.specs.declared.quantifier.Quantifier.{Quantifier}
pub use Rattle.qbf_core.specs.declared.quantifier.Quantifier.TheVariants.{All, Exists}
pub use Rattle.std.proofs.Common.{Bool, IsTrue, List, None, Option, Some, [], ap, arith, cond, drop, eqb, false, get_or, inl, inr, is_some}
pub use Rattle.std.proofs.Common.{length, map, nat_eq, refl, rules, set, slice_get, subst, suc, sym, take, true, zero, ℕ, ◌++◌}
pub use Rattle.std.proofs.Common.{◌+◌, ◌-◌, ◌<◌, ◌||◌, ◌↔◌, ◌∙◌, ◌∷◌, ◌≡◌, ◌≤◌, ◌⊎◌}
pub use Rattle.std.proofs.lemmas.Bool.{cases_eq, eq-eqb, eqb-true, false≢true}
pub use Rattle.std.proofs.lemmas.Bool.Decides.{eqb_tells}
pub use Rattle.std.proofs.lemmas.Grind.{common_steps}
pub use Rattle.std.proofs.lemmas.List.{take-append-drop}
pub use Rattle.std.proofs.lemmas.Option.{get_or_from_slice_get, slice_get_read, slice_get_within}
pub use Rattle.std.specs.List.{AllByRecursion, list_any}
pub use Rattle.std.specs.List.Sorted.{IsNonDecreasingBy}
pub use Rattle.std.specs.Map.{keys_of, lookup}
pub use Rattle.std.specs.Option.{option_map}
pub use mathlib.Core.Bool.{beq}
unfoldable pub use Rattle.std.specs.List.{IsDistinct}
