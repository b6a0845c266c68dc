-- Lists that lie one after the other in one buffer.
use Rattle.std.specs.Prelude.{◌≡◌, ℕ, zero, suc, ◌≤◌, ◌+◌, List, [], ◌∷◌, length, slice_range}

-- the parts of a list with these ends: each begins where the one before ends
abbrev pub parts : {X : Type 0} → List X → ℕ → List ℕ → List (List X)
parts xs from [] = []
parts xs from (e ∷ es) = slice_range xs from e ∷ parts xs e es

-- no part ends before it begins, and the last ends at n
abbrev pub Reaches : ℕ → List ℕ → ℕ → Type 0
Reaches from [] n = from ≡ n
Reaches from (e ∷ es) n = (from ≤ e) × Reaches e es n

-- parts with these ends lie in a buffer of n items, from its beginning on
abbrev pub LieWithin : List ℕ → ℕ → Type 0
LieWithin es n = (m : ℕ) × Reaches 0 es m × (m ≤ n)

-- the beginning of the part at position i
abbrev pub start_of : ℕ → List ℕ → ℕ → ℕ
start_of from es zero = from
start_of from [] (suc i) = from
start_of from (e ∷ es) (suc i) = start_of e es i

-- the end of the last part
abbrev pub end_of : ℕ → List ℕ → ℕ
end_of from [] = from
end_of from (e ∷ es) = end_of e es

-- how many items lists have together
abbrev pub count_items : {X : Type 0} → List (List X) → ℕ
count_items [] = 0
count_items (l ∷ ls) = length l + count_items ls

-- lists that are whole, and after them one that is unfinished
pub record Growing (X : Type 0) : Type 0 where
  pub whole : List (List X)
  pub unfinished : List X
