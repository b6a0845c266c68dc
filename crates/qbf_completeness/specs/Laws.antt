-- The rules are complete.
use Rattle.std.specs.Prelude.{ℕ, suc, ◌+◌, ◌*◌, ◌<◌, ◌^◌, List, [], ◌∷◌, ◌⊎◌, if◌then◌else◌}
use Rattle.qbf_core.specs.declared.quantifier.Quantifier.{Quantifier}
use Rattle.qbf_core.specs.Blocks.{pairs, is_quantifier}
use Rattle.qbf_core.specs.Qbf.{Qbf, IsClosed}
use Rattle.qbf_core.specs.Rules.{Side, reduced_quantifier, deciding_quantifier}
use Rattle.qbf_core.specs.Truth.{IsTrueFormula, ResultHolds}
use Rattle.qbf_completeness.specs.Derivations.{IsDerived}

-- how many of the pairs have the quantifier q
abbrev pub count_of : Quantifier → List (Quantifier × ℕ) → ℕ
count_of q [] = 0
count_of q ((p, v) ∷ ps) = if is_quantifier p q then suc (count_of q ps) else count_of q ps

-- (2 + p) 2 ^ d, for p variables whose literals the side reduces and d variables that it resolves on
abbrev pub step_limit : Side → Qbf → ℕ
step_limit side f = (2 + count_of (reduced_quantifier side) (pairs f.blocks)) * 2 ^ count_of (deciding_quantifier side) (pairs f.blocks)

-- Completeness: from each closed formula that is false the rules derive the empty clause, and from each that is true the empty cube, in
-- fewer steps than `step_limit`.
abbrev pub Completeness : Type 0
Completeness = (f : Qbf) (side : Side) → IsClosed f → ResultHolds side f
    → (n : ℕ) × (n < step_limit side f) × IsDerived side f n []

-- a closed formula is true or false
abbrev pub IsDecided : Type 0
IsDecided = (f : Qbf) → IsClosed f → IsTrueFormula f ⊎ (IsTrueFormula f → ⊥)
