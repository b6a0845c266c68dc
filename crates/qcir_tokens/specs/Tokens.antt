-- The tokens of a line of QCIR-14 (Jordan, Klieber, Seidl 2016): words and marks, with blanks between them or not.
use Rattle.std.specs.Prelude.{◌≡◌, ℕ, Bool, ◌||◌, ◌&&◌, ◌==◌, if◌then◌else◌, List, [], ◌∷◌, map, slice_index}
use Rattle.std.specs.Char.{is_ascii_alphanumeric}
use Rattle.std.specs.List.{onto_first}
use Rattle.qbf_tokens.specs.Tokens.{is_blank}
use Rattle.qcir_tokens.specs.declared.mark.Mark.{Mark}
use Rattle.qcir_tokens.specs.declared.mark.Mark.TheVariants.{Close, Comma, Equals, Hash, Minus, Open, Other}

-- a letter, a digit or an underscore: the bytes of names
abbrev pub is_word_byte : ℕ → Bool
is_word_byte b = is_ascii_alphanumeric b || b == 95

-- the runs of a line: words, as long as they can be, and each other byte by itself, but for blanks
abbrev pub runs : List ℕ → List (List ℕ)
runs [] = []
runs (b ∷ bs) =
    if is_blank b then runs bs
    else (if is_word_byte b && is_word_byte (slice_index bs 0) then onto_first b (runs bs) else (b ∷ []) ∷ runs bs)

-- a word: a name, a number, or a word of the format; or a mark
pub data Token : Type 0 where
  Word : List ℕ → Token
  Sign : Mark → Token

-- the mark that a byte is
abbrev pub mark_of : ℕ → Mark
mark_of b =
    if b == 40 then Open
    else (if b == 41 then Close
    else (if b == 44 then Comma
    else (if b == 45 then Minus
    else (if b == 61 then Equals
    else (if b == 35 then Hash
    else Other)))))

-- what a run is: a word, or the mark that its byte is
abbrev pub token_of : List ℕ → Token
token_of [] = Word []
token_of (b ∷ bs) = if is_word_byte b then Word (b ∷ bs) else Sign (mark_of b)

-- the tokens of a line
abbrev pub tokens : List ℕ → List Token
tokens line = map token_of (runs line)

-- the first token is not a word
abbrev pub BeginsWithNoWord : List Token → Type 0
BeginsWithNoWord [] = Unit {0}
BeginsWithNoWord (Word w ∷ ts) = ⊥
BeginsWithNoWord (Sign m ∷ ts) = Unit {0}

-- the first token is not this mark
abbrev pub BeginsWithout : Mark → List Token → Type 0
BeginsWithout m [] = Unit {0}
BeginsWithout m (Word w ∷ ts) = Unit {0}
BeginsWithout m (Sign n ∷ ts) = n ≡ m → ⊥
