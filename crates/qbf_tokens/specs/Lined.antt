-- Tokens with their lines.
use Rattle.std.specs.Prelude.{◌≡◌, ◌≢◌, ℕ, List, [], ◌∷◌, map, Option}
use Rattle.qbf_tokens.specs.declared.token.Token.{Token}
use Rattle.qbf_tokens.specs.declared.token.Token.TheVariants as token

-- a token and its line
abbrev pub Lined : Type 0
Lined = Token × ℕ

-- the tokens without their lines
abbrev pub without_lines : List Lined → List Token
without_lines ts = map (λ t. t.0) ts

-- End comes last, and nowhere else
abbrev pub EndsOnce : List Lined → Type 0
EndsOnce [] = ⊥
EndsOnce (t ∷ []) = t.0 ≡ token.End
EndsOnce (t ∷ u ∷ ts) = (t.0 ≢ token.End) × EndsOnce (u ∷ ts)

-- the tokens that are left, if the bytes of the source are known
abbrev pub Known : Type 0
Known = Option (List Lined)
