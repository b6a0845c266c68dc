-- The parts of a canonical text, as they are written one after the other.
use Rattle.std.specs.Prelude.{ℕ, List, [], ◌∷◌, ◌++◌}
use Rattle.std.specs.List.{flat_map}
use Rattle.qbf_core.specs.Literal.{Literal}
use Rattle.qbf_core.specs.Blocks.{Block}
use Rattle.qbf_tokens.specs.Canonical.{spaced_number, token_text}
use Rattle.dimacs_syntax.specs.Spelling.{literal, letter}

-- a literal after a blank
abbrev pub literal_text : Literal → List ℕ
literal_text l = 32 ∷ token_text (literal l)

-- a zero after a blank, and the line end
abbrev pub closing : List ℕ
closing = 32 ∷ 48 ∷ 10 ∷ []

-- the line of a set
abbrev pub set_text : Block → List ℕ
set_text s = token_text (letter s.quantifier) ++ (flat_map spaced_number s.vars ++ closing)
