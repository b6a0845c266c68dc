-- The position of an earlier step, by its number.
use Rattle.std.specs.Prelude.{◌≡◌, ℕ, ◌<◌, List, Option, Some, None}
use Rattle.trace_items.specs.Inferences.{Inference, IsAt, IsOnlyAt}

-- the step with the number n is at p, before i
pub record StandsEarlier (steps : List Inference) (i n p : ℕ) : Type 0 where
  pub before : p < i
  pub step : Inference
  pub here : IsAt steps p step
  pub named : step.number ≡ n
  pub only : IsOnlyAt steps p n

-- the position of the step with the number n, if it is before i
abbrev pub FindsEarlier : List Inference → ℕ → ℕ → Option ℕ → Type 0
FindsEarlier steps i n None = (j : ℕ) (step : Inference) → IsAt steps j step → step.number ≡ n → j < i → ⊥
FindsEarlier steps i n (Some p) = StandsEarlier steps i n p
