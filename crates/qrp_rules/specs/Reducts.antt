-- The clauses of a formula that have some literals as a reduct, by their places.
use Rattle.std.specs.Prelude.{◌≡◌, ℕ, List, Some, slice_get}
use Rattle.qbf_core.specs.Literal.{Literal}
use Rattle.qbf_core.specs.Qbf.{Qbf}
use Rattle.qbf_core.specs.Rules.{Clauses, IsClean, IsReduct}

-- the clause of the formula at a position is clean, and the literals are a reduct of it
pub record IsReductAt (f : Qbf) (lits : List Literal) (position : ℕ) : Type 0 where
  pub clause : List Literal
  pub here : slice_get f.clauses position ≡ Some clause
  pub clean : IsClean clause
  pub reduct : IsReduct Clauses f.blocks clause lits

-- the literals are a reduct of no clean clause of the formula
abbrev pub HasNoReduct : Qbf → List Literal → Type 0
HasNoReduct f lits = (position : ℕ) → IsReductAt f lits position → ⊥
