-- Literals as the numbers that QDIMACS 1.1 writes for them.
use Rattle.std.specs.Prelude.{◌≡◌, ℕ, ℤ, pos, ◌≤◌, unsigned_abs, int_lt, List, ◌++◌, map}
use Rattle.std.specs.List.{AllByRecursion}
use Rattle.qbf_core.specs.Literal.{Literal}

-- the literal that a number writes
abbrev pub literal_of : ℤ → Literal
literal_of n = record { var = unsigned_abs n; negative = int_lt n (pos 0) }

-- a number writes a literal of a variable up to this one
abbrev pub IsWritten : ℕ → ℤ → Type 0
IsWritten last n = (1 ≤ unsigned_abs n) × (unsigned_abs n ≤ last)

-- numbers write literals of variables up to this one, and these literals are put after others
pub record ArePut (old : List Literal) (numbers : List ℤ) (last : ℕ) (new : List Literal) : Type 0 where
  pub put : new ≡ old ++ map literal_of numbers
  pub written : AllByRecursion (IsWritten last) numbers
