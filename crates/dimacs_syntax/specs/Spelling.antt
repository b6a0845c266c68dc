-- The tokens that spell numbers, literals, quantifiers and sets, and the header of a text.
use Rattle.std.specs.Prelude.{ℕ, false, List, [], ◌∷◌, ◌++◌, map}
use Rattle.qbf_core.specs.declared.quantifier.Quantifier.{Quantifier}
use Rattle.qbf_core.specs.declared.quantifier.Quantifier.TheVariants.{All, Exists}
use Rattle.qbf_core.specs.Literal.{Literal}
use Rattle.qbf_core.specs.Blocks.{Block}
use Rattle.qbf_tokens.specs.declared.token.Token.{Token}
use Rattle.qbf_tokens.specs.declared.token.Token.TheVariants as token
use Rattle.qbf_tokens.specs.declared.token.Word.{Word}
use Rattle.qbf_tokens.specs.declared.token.Word.TheVariants as word

-- a number without a minus
abbrev pub number : ℕ → Token
number n = token.Number false n

-- a literal: its variable, after a minus if it is negative
abbrev pub literal : Literal → Token
literal l = token.Number l.negative l.var

-- the letter of a quantifier
abbrev pub letter : Quantifier → Token
letter All = token.Word word.A
letter Exists = token.Word word.E

-- the header of a text in this format: two words, and two numbers
abbrev pub header : Word → ℕ → ℕ → List Token
header format first second = token.Word word.P ∷ token.Word format ∷ number first ∷ number second ∷ []

-- a set as it is written: its letter, its variables and a zero
abbrev pub set : Block → List Token
set s = letter s.quantifier ∷ (map number s.vars ++ number 0 ∷ [])
