-- The player of a side and the opponent: whose a quantifier is, and who wins.
use Rattle.qbf_core.proofs.Cited.{arith, common_steps, ◌≡◌, true, false, ◌⊎◌, inl, inr, is_quantifier, List, [], Literal, pairs, variables}
use Rattle.qbf_core.proofs.Cited.{Side, Clauses, Cubes, reduced_quantifier, deciding_quantifier, Qbf, MatrixHolds, IsTrueFormula}
use Rattle.qbf_core.specs.declared.quantifier.Quantifier.{Quantifier}
use Rattle.qbf_core.specs.Qbf.{IsClosed}
use Rattle.qbf_core.specs.Truth.{ResultHolds}
use Rattle.qbf_core.proofs.Bound.{apart_of, closed_each}
use Rattle.qbf_core.proofs.Game.{Wins, Chosen}
use Rattle.qbf_core.proofs.Inferences.{won_if_true, false_if_won, determined, not_both}
use Rattle.qbf_core.proofs.Leaves.{leaf_is_clean, leaf_is_total}
use Rattle.qbf_core.proofs.Sides.{Falsified}
use Rattle.qbf_core.proofs.TruthLaws.{matrix_value}
use Rattle.qbf_completeness.specs.Laws.{IsDecided}

pub chosen_mine : (side : Side) (q : Quantifier) (A B : Type 0) → q ≡ reduced_quantifier side → Chosen side q A B → A ⊎ B
chosen_mine side q A B mine w = grind (arith, common_steps)

pub chosen_theirs : (side : Side) (q : Quantifier) (A B : Type 0) → q ≡ deciding_quantifier side → Chosen side q A B → A × B
chosen_theirs side q A B theirs w = grind (arith, common_steps)

pub mine_is : (side : Side) (q : Quantifier) → q ≡ reduced_quantifier side
    → (is_quantifier q (reduced_quantifier side) ≡ true) × (is_quantifier q (deciding_quantifier side) ≡ false)
mine_is side q e = (grind (arith, common_steps), grind (arith, common_steps))

pub theirs_is : (side : Side) (q : Quantifier) → q ≡ deciding_quantifier side
    → (is_quantifier q (reduced_quantifier side) ≡ false) × (is_quantifier q (deciding_quantifier side) ≡ true)
theirs_is side q e = (grind (arith, common_steps), grind (arith, common_steps))

-- the end that the player of a side is to bring about
abbrev pub ends : Side → Qbf → List Literal → Type 0
ends Clauses f = Falsified f.clauses
ends Cubes f = MatrixHolds f.clauses

pub true_or_refuted : (f : Qbf) → IsClosed f → IsTrueFormula f ⊎ Wins Clauses (pairs f.blocks) (Falsified f.clauses) []
true_or_refuted f closed = determined (pairs f.blocks) (MatrixHolds f.clauses) (Falsified f.clauses) []
    (λ t below. matrix_value f.blocks t f.clauses (leaf_is_total f.blocks t below) (closed_each f.blocks f.clauses closed.bound))

pub decided : IsDecided
decided f closed = elim (true_or_refuted f closed) [
  | inl is ↦ inl is
  | inr w ↦ inr (λ is. false_if_won (pairs f.blocks) (MatrixHolds f.clauses) (Falsified f.clauses) []
      (λ t below. not_both f.clauses t (leaf_is_clean f.blocks t (apart_of (variables (pairs f.blocks)) closed.distinct) below)) w is)
]

pub won : (side : Side) (f : Qbf) → IsClosed f → ResultHolds side f → Wins side (pairs f.blocks) (ends side f) []
won Clauses f closed not_true = elim (true_or_refuted f closed) [ inl is ↦ absurd (not_true is) | inr w ↦ w ]
won Cubes f closed is = won_if_true (pairs f.blocks) (MatrixHolds f.clauses) [] is
