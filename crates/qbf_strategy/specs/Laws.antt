-- Decisions are a strategy.
use Rattle.std.specs.Prelude.{◌≡◌, ℕ, Bool, List, [], nat_eq}
use Rattle.std.specs.List.{IsDistinct}
use Rattle.qbf_core.specs.declared.quantifier.Quantifier.{Quantifier}
use Rattle.qbf_core.specs.Blocks.{variables}
use Rattle.qbf_completeness.specs.Strategies.{Strategy, play}
use Rattle.qbf_strategy.specs.Decisions.{Decision, play_by}

-- the value of each variable is a function of the values of the other's variables before it
abbrev pub DecisionsAreAStrategy : Type 0
DecisionsAreAStrategy =
    (mine : Quantifier) (ps : List (Quantifier × ℕ)) (otherwise : ℕ → Bool) (ds : List Decision) → IsDistinct nat_eq (variables ps)
    → (strategy : Strategy) × ((values : ℕ → Bool) → play mine ps strategy values [] ≡ play_by mine ps otherwise ds values [])
