-- Numbers in a set that has a bit for each.
use Rattle.std.specs.Prelude.{ℕ, ◌≡◌, ◌/◌, ◌%◌, List, get_or}
use Rattle.std.specs.Int.{bit_at}

-- the bit of a number is set
abbrev pub HasBit : List ℕ → ℕ → Type 0
HasBit words n = bit_at (get_or words (n / 64) 0) (n % 64) ≡ 1
