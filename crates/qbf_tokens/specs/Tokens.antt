-- The tokens of a text: its lines, its comment lines, and the runs of bytes between blanks.
-- QDIMACS 1.1, input format: comment lines and what stands between blanks.
-- The text form of QRP has the same tokens, and `#` for comments too.
-- The standard has comment lines in the preamble alone; here they may stand anywhere.
use Rattle.std.specs.Prelude.{ℕ, ◌+◌, ◌-◌, ◌*◌, ◌^◌, min, Bool, true, false, not, ◌&&◌, ◌||◌, ◌==◌, nat_lt, if◌then◌else◌, Option, Some}
use Rattle.std.specs.Prelude.{None, unwrap_or, List, [], ◌∷◌, ◌++◌, map, filter, fold, count_by, bytes_eq, codes}
use Rattle.std.specs.List.{slice_split}
use Rattle.std.specs.Str.{str_to_ascii_lowercase, all_ascii_digits}
use Rattle.qbf_tokens.specs.declared.token.Comments.{Comments}
use Rattle.qbf_tokens.specs.declared.token.Comments.TheVariants.{Qdimacs, Qrp}
use Rattle.qbf_tokens.specs.declared.token.Word.{Word}
use Rattle.qbf_tokens.specs.declared.token.Word.TheVariants as words
use Rattle.qbf_tokens.specs.declared.token.Token.{Token}
use Rattle.qbf_tokens.specs.declared.token.Token.TheVariants as kinds

-- ---- bytes

-- byte 10 ends a line
abbrev pub is_line_end : ℕ → Bool
is_line_end b = b == 10

-- a space, a tab or a carriage return
abbrev pub is_blank : ℕ → Bool
is_blank b = b == 32 || (b == 9 || b == 13)

-- `c` in both formats, and `#` in a trace
abbrev pub is_comment_byte : Comments → ℕ → Bool
is_comment_byte Qdimacs b = b == 99
is_comment_byte Qrp b = b == 99 || b == 35

-- ---- the kind of a run of bytes

-- the number that digits write
abbrev pub magnitude : List ℕ → ℕ
magnitude digits = fold (λ n digit. 10 * n + (digit - 48)) 0 digits

-- one or more digits alone, after a minus or not: their number if it has at most 64 bits, and Big if not;
-- a minus before 0 makes none
abbrev pub numeral : Bool → List ℕ → Option Token
numeral negative [] = None
numeral negative (d ∷ ds) =
    if not (all_ascii_digits (d ∷ ds)) then None
    else (if not (nat_lt (magnitude (d ∷ ds)) (2 ^ 64)) then Some kinds.Big
    else (if negative && (magnitude (d ∷ ds) == 0) then None
    else Some (kinds.Number negative (magnitude (d ∷ ds)))))

-- a number or Big, after a minus or not
abbrev pub number : List ℕ → Option Token
number [] = None
number (b ∷ bs) = if b == 45 then numeral true bs else numeral false (b ∷ bs)

-- the words, two of them with each letter in either case
abbrev pub word : List ℕ → Option Word
word run =
    if bytes_eq run (codes "p") then Some words.P
    else (if bytes_eq run (codes "cnf") then Some words.Cnf
    else (if bytes_eq run (codes "qrp") then Some words.Qrp
    else (if bytes_eq run (codes "a") then Some words.A
    else (if bytes_eq run (codes "e") then Some words.E
    else (if bytes_eq run (codes "r") then Some words.R
    else (if bytes_eq (str_to_ascii_lowercase run) (codes "sat") then Some words.Sat
    else (if bytes_eq (str_to_ascii_lowercase run) (codes "unsat") then Some words.Unsat
    else None)))))))

-- a word, or Bad if there is none
abbrev pub word_or_bad : Option Word → Token
word_or_bad (Some w) = kinds.Word w
word_or_bad None = kinds.Bad

-- a Number or Big, a Word, or else Bad
abbrev pub kind : List ℕ → Token
kind run = unwrap_or (number run) (word_or_bad (word run))

-- ---- lines

-- whether there is no byte
abbrev pub is_empty : List ℕ → Bool
is_empty [] = true
is_empty (b ∷ bs) = false

-- the maximal nonempty runs of bytes that are not blanks
abbrev pub runs : List ℕ → List (List ℕ)
runs line = filter (λ run. not (is_empty run)) (slice_split is_blank line)

-- the first byte that is not a blank is a comment byte
abbrev pub is_comment_line : Comments → List ℕ → Bool
is_comment_line format [] = false
is_comment_line format (b ∷ bs) = if is_blank b then is_comment_line format bs else is_comment_byte format b

-- lines are counted up to 2 ^ 64 - 1 and stay there
abbrev pub line_number : ℕ → ℕ
line_number n = min n (2 ^ 64 - 1)

-- the tokens of the line with number n
abbrev pub line_tokens : Comments → ℕ → List ℕ → List (Token × ℕ)
line_tokens format n line = if is_comment_line format line then [] else map (λ run. (kind run, line_number n)) (runs line)

-- the tokens of lines, of which the first has number n
abbrev pub tokens_from : Comments → ℕ → List (List ℕ) → List (Token × ℕ)
tokens_from format n [] = []
tokens_from format n (line ∷ lines) = line_tokens format n line ++ tokens_from format (n + 1) lines

-- the tokens of a text, and then End on the line that follows the last line end
abbrev pub tokens : Comments → List ℕ → List (Token × ℕ)
tokens format bytes =
    tokens_from format 1 (slice_split is_line_end bytes) ++ (kinds.End, line_number (1 + count_by is_line_end bytes)) ∷ []
