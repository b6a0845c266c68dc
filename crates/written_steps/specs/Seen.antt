-- A set of literals as contracts see it: by the number of each literal, whether it is in the set.
use Rattle.std.specs.Prelude.{◌≡◌, ℕ, ◌+◌, ◌*◌, ◌≤◌, Bool, true, false, if◌then◌else◌, nat_eq, List, map, length, get_or, ◌⊎◌}
use Rattle.std.specs.List.{list_any}
use Rattle.qbf_core.specs.Literal.{Literal}
use Rattle.qbf_core.specs.Members.{◌∈◌}

-- the number of a literal: those of a variable are neighbours
abbrev pub code : Literal → ℕ
code l = 2 * l.var + (if l.negative then 1 else 0)

-- a set of literals: by the number of each near one, whether it is in the set, and the numbers of those that are far
pub record Members : Type 0 where
  pub near : List Bool
  pub far : List ℕ

-- the number is among those that are far
abbrev pub IsFar : List ℕ → ℕ → Type 0
IsFar far n = list_any (nat_eq n) far ≡ true

-- the literal is in the set
abbrev pub Has : Members → Literal → Type 0
Has s l = (get_or s.near (code l) false ≡ true) ⊎ IsFar s.far (code l)

-- which numbers have the stamp of this time
abbrev pub members_by_stamp : List ℕ → ℕ → List Bool
members_by_stamp stamps now = map (λ t. nat_eq t now) stamps

-- no stamp is of a later time
abbrev pub AreUpTo : List ℕ → ℕ → Type 0
AreUpTo stamps now = (n : ℕ) → get_or stamps n 0 ≤ now

-- each number among those that are far has no stamp
abbrev pub AreBeyond : List ℕ → List ℕ → Type 0
AreBeyond far stamps = (n : ℕ) → IsFar far n → length stamps ≤ n

-- each literal of the set is in the list
abbrev pub AreAmong : Members → List Literal → Type 0
AreAmong s lits = (l : Literal) → Has s l → l ∈ lits
