-- Canonical texts: how tokens are written on lines.
-- QDIMACS 1.1 and the text form of QRP leave blanks and line ends free; this is one choice, which both formats share.
use Rattle.std.specs.Prelude.{ℕ, ◌<◌, ◌^◌, false, true, List, [], ◌∷◌, ◌++◌, codes, decimal}
use Rattle.std.specs.List.{flat_map, AllByRecursion}
use Rattle.qbf_tokens.specs.declared.token.Word.{Word}
use Rattle.qbf_tokens.specs.declared.token.Word.TheVariants as word
use Rattle.qbf_tokens.specs.declared.token.Token.{Token}
use Rattle.qbf_tokens.specs.declared.token.Token.TheVariants as token

-- the bytes of a word, in lower case
abbrev pub letters : Word → List ℕ
letters word.P = codes "p"
letters word.Cnf = codes "cnf"
letters word.Qrp = codes "qrp"
letters word.A = codes "a"
letters word.E = codes "e"
letters word.R = codes "r"
letters word.Sat = codes "sat"
letters word.Unsat = codes "unsat"

-- the bytes of a token: decimal digits without leading zeros, directly after a minus if the number is negative
abbrev pub token_text : Token → List ℕ
token_text (token.Word w) = letters w
token_text (token.Number false n) = decimal n
token_text (token.Number true n) = 45 ∷ decimal n
token_text token.Big = []
token_text token.Bad = []
token_text token.End = []

-- a number after a blank
abbrev pub spaced_number : ℕ → List ℕ
spaced_number n = 32 ∷ decimal n

-- the rest of a line: each token after one byte 32, and then the byte 10
abbrev pub line_rest : List Token → List ℕ
line_rest [] = 10 ∷ []
line_rest (t ∷ ts) = 32 ∷ (token_text t ++ line_rest ts)

-- the tokens of a line, parted by one byte 32, and the byte 10
abbrev pub line_text : List Token → List ℕ
line_text [] = 10 ∷ []
line_text (t ∷ ts) = token_text t ++ line_rest ts

-- lines, one after the other
abbrev pub lines_text : List (List Token) → List ℕ
lines_text lines = flat_map line_text lines

-- a token that can be written: a word, or a number that fits in 64 bits, after a minus only if it is not 0
abbrev pub IsPlain : Token → Type 0
IsPlain (token.Word w) = Unit {0}
IsPlain (token.Number false n) = n < 2 ^ 64
IsPlain (token.Number true n) = (0 < n) × (n < 2 ^ 64)
IsPlain token.Big = ⊥
IsPlain token.Bad = ⊥
IsPlain token.End = ⊥

-- a token that does not begin with a comment byte
abbrev pub IsOpening : Token → Type 0
IsOpening (token.Word word.Cnf) = ⊥
IsOpening t = Unit {0}

-- a line that can be written
abbrev pub IsLine : List Token → Type 0
IsLine [] = ⊥
IsLine (t ∷ ts) = IsOpening t × AllByRecursion IsPlain (t ∷ ts)
