-- The names that the proofs cite most, passed on from one place. Declares nothing.
pub use Rattle.qbf_core.proofs.Cited.{arith, common_steps, rules, ◌≡◌, ◌↔◌, ℕ, Bool, true, false, cond, List, [], ◌∷◌, ◌++◌, ◌⊎◌, ◌∙◌, inl, inr}
pub use Rattle.qbf_core.proofs.Cited.{refl, sym, ap, subst, map, eqb, eqb_tells, false≢true, beq, list_any, AllByRecursion, IsDistinct}
pub use Rattle.qbf_core.proofs.Cited.{Literal, literal_eq, positive, negative, negated, ◌∈◌, ◌⊆◌, IsClean, ClauseHolds, MatrixHolds, IsTrueFrom}
pub use Rattle.qbf_core.specs.declared.quantifier.Quantifier.{Quantifier}
pub use Rattle.qbf_core.specs.declared.quantifier.Quantifier.TheVariants.{All, Exists}
pub use Rattle.qbf_core.proofs.Cited.{pairs, blocks_of, variables, IsTrueFormula}
pub use Rattle.std.proofs.Common.{not}
pub use Rattle.std.proofs.lemmas.Bool.{cases_Bool}
pub use Rattle.qbf_completeness.specs.Setting.{are_set, is_set}
pub use Rattle.qbf_completeness.specs.Strategies.{literal_of}
pub use Rattle.qbf_gates.specs.Gates.{Gate, And, Or, Xor, Ite, GateFormula, IsOf, IsWellFormed, StandInOrder, gate_names, inputs_of, names}
pub use Rattle.qbf_gates.specs.Truth.{IsTrueGates, OutputHolds, gate_value, with_gates}
pub use Rattle.gate_clauses.specs.Encoding.{clauses_of, encoding, gate_clauses, gate_pairs}
