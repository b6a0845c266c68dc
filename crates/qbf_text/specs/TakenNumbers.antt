-- What a grammar makes of numbers.
use Rattle.std.specs.Prelude.{◌≡◌, ℕ, zero, suc, ◌+◌, List, Option, Some, None, ℤ}
use Rattle.qbf_tokens.specs.NumberTokens.{token_at}
use Rattle.qbf_tokens.specs.declared.token.Token.{Token}
use Rattle.qbf_text.specs.Rows.{Row, Goes, Ends}

-- so many numbers from a place on lead from one state to another
abbrev pub LeadsBy : {P A F : Type 0} → (P → Token → Row P A F) → (first next : P) → List ℤ → (from count : ℕ) → Type 0
LeadsBy row first next values from zero = first ≡ next
LeadsBy {P} row first next values from (suc count) =
    (mid : P) × LeadsBy row first mid values from count × (row mid (token_at values (from + count)) ≡ Goes next)

-- the numbers between two places lead from one state to another
pub record LeadsOver {P A F : Type 0} (row : P → Token → Row P A F) (first next : P) (values : List ℤ) (from to : ℕ) : Type 0 where
  pub count : ℕ
  pub counted : to ≡ from + count
  pub leads : LeadsBy row first next values from count

-- and there one number more ends what is read
pub record EndsOver {P A F : Type 0} (row : P → Token → Row P A F) (first next : P) (result : A) (values : List ℤ) (from to : ℕ)
    : Type 0 where
  pub last : P
  pub at : ℕ
  pub leads : LeadsOver row first last values from at
  pub to_is : to ≡ at + 1
  pub ends : row last (token_at values at) ≡ Ends result next

-- a grammar took the numbers between two places: they lead to the next state, or the last of them ends what is read, with a result
abbrev pub TakesOver : {P A F : Type 0} → (P → Token → Row P A F) → (first next : P) → List ℤ → (from to : ℕ) → Option A → Type 0
TakesOver row first next values from to None = LeadsOver row first next values from to
TakesOver row first next values from to (Some result) = EndsOver row first next result values from to
