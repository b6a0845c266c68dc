-- The tokens that are left in the middle of a text.
use Rattle.std.specs.Prelude.{◌≡◌, ℕ, ◌+◌, Bool, true, false, List, [], ◌∷◌, ◌++◌, map, count_by, if◌then◌else◌, ◌||◌, ⊤, Option}
use Rattle.std.specs.Prelude.{option_map}
use Rattle.std.specs.List.{slice_split, AllByRecursion}
use Rattle.qbf_tokens.specs.declared.token.Comments.{Comments}
use Rattle.qbf_tokens.specs.declared.token.Token.{Token}
use Rattle.qbf_tokens.specs.declared.token.Token.TheVariants as kinds
use Rattle.qbf_tokens.specs.Tokens.{is_line_end, is_blank, runs, kind, line_number, line_tokens, tokens_from}

-- the tokens of the rest of line n: after a token, a comment byte does not begin a comment
abbrev pub rest_tokens : Comments → Bool → ℕ → List ℕ → List (Token × ℕ)
rest_tokens format begun n rest =
    if begun then map (λ run. (kind run, line_number n)) (runs rest) else line_tokens format n rest

-- the tokens of the rest of line n and of the lines after it
abbrev pub left_from : Comments → Bool → ℕ → List (List ℕ) → List (Token × ℕ)
left_from format begun n [] = []
left_from format begun n (rest ∷ lines) = rest_tokens format begun n rest ++ tokens_from format (n + 1) lines

-- the tokens of the rest of a text, which begins on line n, after a token of that line if `begun` is true
abbrev pub tokens_left : Comments → Bool → ℕ → List ℕ → List (Token × ℕ)
tokens_left format begun n bytes =
    left_from format begun n (slice_split is_line_end bytes) ++ (kinds.End, line_number (n + count_by is_line_end bytes)) ∷ []

-- whether a byte ends a run: it is a blank or a line end
abbrev pub is_separator : ℕ → Bool
is_separator b = is_blank b || is_line_end b

-- no byte here ends the run
abbrev pub IsUnbroken : List ℕ → Type 0
IsUnbroken run = AllByRecursion (λ b. is_separator b ≡ false) run

-- no byte here ends the line
abbrev pub IsWithinLine : List ℕ → Type 0
IsWithinLine bytes = AllByRecursion (λ b. is_line_end b ≡ false) bytes

-- the text goes on with a separator, or ends
abbrev pub EndsRun : List ℕ → Type 0
EndsRun [] = ⊤
EndsRun (b ∷ bs) = is_separator b ≡ true

-- the text goes on with a line end, or ends
abbrev pub EndsLine : List ℕ → Type 0
EndsLine [] = ⊤
EndsLine (b ∷ bs) = is_line_end b ≡ true

-- the tokens that are left of a known text; nothing is said of an unknown one
abbrev pub known_left : Comments → Bool → ℕ → Option (List ℕ) → Option (List (Token × ℕ))
known_left format begun n text = option_map (tokens_left format begun n) text

-- whether a token is the end of the text
abbrev pub is_end : Token → Bool
is_end kinds.End = true
is_end token = false
