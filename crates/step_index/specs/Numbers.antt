-- Step numbers as contracts see them, and how those that go up one by one are counted.
use Rattle.std.specs.Prelude.{ℕ, zero, suc, ◌<◌, ◌≤◌, ◌^◌, Bool, nat_eq, List, [], ◌∷◌, ◌++◌, length}
use Rattle.std.specs.List.{AllByRecursion, IsDistinct, list_any}

-- whether a step has this number
abbrev pub is_used : ℕ → List ℕ → Bool
is_used n ns = list_any (λ m. nat_eq n m) ns

-- numbers of 64 bits, no two the same, and fewer than 2^64 of them
pub record AreStepNumbers (keys : List ℕ) : Type 0 where
  pub distinct : IsDistinct nat_eq keys
  pub fit : AllByRecursion (λ n. n < 2 ^ 64) keys
  pub count : length keys < 2 ^ 64

-- this many numbers, one by one from the first
abbrev pub count_from : ℕ → ℕ → List ℕ
count_from first zero = []
count_from first (suc n) = first ∷ count_from (suc first) n

-- step numbers, of which the first ones, at most 2 ^ 63, are counted one by one from `first`
pub record AreIndexed (first count : ℕ) (sparse : List ℕ) : Type 0 where
  pub numbers : AreStepNumbers (count_from first count ++ sparse)
  pub few : count ≤ 2 ^ 63
