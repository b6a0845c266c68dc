-- The first byte of what is left of a line.
use Rattle.std.specs.Prelude.{◌≡◌, ℕ, false, List, [], ◌∷◌}
use Rattle.qbf_tokens.specs.Tokens.{is_blank}

-- the first byte is not a blank
abbrev pub BeginsWithNoBlank : List ℕ → Type 0
BeginsWithNoBlank [] = Unit {0}
BeginsWithNoBlank (b ∷ bs) = is_blank b ≡ false
