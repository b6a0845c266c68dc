-- The tokens of numbers that are given as such.
use Rattle.std.specs.Prelude.{ℕ, List, ℤ, pos, unsigned_abs, int_lt, slice_index_or}
use Rattle.qbf_tokens.specs.declared.token.Token.{Token}
use Rattle.qbf_tokens.specs.declared.token.Token.TheVariants.{Number}

-- the token of a number
abbrev pub token_of : ℤ → Token
token_of v = Number (int_lt v (pos 0)) (unsigned_abs v)

-- the token of the number at a place of a list
abbrev pub token_at : List ℤ → ℕ → Token
token_at values k = token_of (slice_index_or values k (pos 0))
