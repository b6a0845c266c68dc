-- Cursors among the buffered bytes, and the tokens that stand whole between two of them, whatever bytes follow.
use Rattle.std.specs.Prelude.{◌≡◌, ℕ, ◌+◌, ◌<◌, ◌≤◌, Bool, true, false, not, nat_eq, List, [], ◌∷◌, ◌++◌, drop, length}
use Rattle.qbf_tokens.specs.declared.token.Comments.{Comments}
use Rattle.qbf_tokens.specs.declared.token.Token.{Token}
use Rattle.qbf_tokens.specs.Left.{tokens_left, is_end, is_separator, IsUnbroken}
use Rattle.qbf_tokens.specs.Lined.{Lined}
use Rattle.qbf_tokens.specs.Tokens.{line_number}
use Rattle.window_numbers.specs.declared.cursor.Cursor.{Cursor}

-- 1 if this is so, and 0 if not
abbrev pub one_if : Bool → ℕ
one_if true = 1
one_if false = 0

-- whether a token stands before a cursor on its line
abbrev pub is_begun : Cursor → Bool
is_begun here = not (nat_eq here.tokens 0)

-- the cursor after a number and its separator, which take so many bytes
abbrev pub cursor_after : Cursor → ℕ → Bool → Cursor
cursor_after here len true = record { at = here.at + len; line = line_number (here.line + 1); tokens = 0 }
cursor_after here len false = record { at = here.at + len; line = here.line; tokens = 1 }

-- the tokens of bytes that stand at a cursor
abbrev pub tokens_from_cursor : Comments → Cursor → List ℕ → List Lined
tokens_from_cursor format here = tokens_left format (is_begun here) here.line

-- one token stands between two cursors, whatever bytes follow
pub record PassesToken (bytes : List ℕ) (here next : Cursor) (token : Token) : Type 0 where
  pub word : List ℕ
  pub separator : ℕ
  pub unbroken : IsUnbroken word
  pub separates : is_separator separator ≡ true
  pub no_end : is_end token ≡ false
  pub further : here.at < next.at
  pub within : next.at ≤ length bytes
  pub taken : drop here.at bytes ≡ (word ++ separator ∷ []) ++ drop next.at bytes
  pub spelled : (format : Comments) (rest : List ℕ) → tokens_from_cursor format here ((word ++ separator ∷ []) ++ rest)
      ≡ (token, here.line) ∷ tokens_from_cursor format next rest

-- the tokens between two cursors are as this says, whatever bytes follow
pub record Passes (Are : List Lined → Type 0) (bytes : List ℕ) (here next : Cursor) : Type 0 where
  pub front : List ℕ
  pub given : List Lined
  pub forward : here.at ≤ next.at
  pub within : next.at ≤ length bytes
  pub taken : drop here.at bytes ≡ front ++ drop next.at bytes
  pub spelled : (format : Comments) (rest : List ℕ) → tokens_from_cursor format here (front ++ rest)
      ≡ given ++ tokens_from_cursor format next rest
  pub are : Are given
