-- Where reading stops: after a token, and at most one separator.
use Rattle.std.specs.Prelude.{◌≡◌, ℕ, false, true, List, [], ◌∷◌, ◌++◌, Option, Some, None, IfSome, Result, Ok, Err, ⊤}
use Rattle.qbf_text.specs.declared.grammar.ReadError.{ReadError}
use Rattle.qbf_text.specs.declared.scanner.Place.{Place}
use Rattle.qbf_tokens.specs.declared.token.Token.{Token}
use Rattle.qbf_tokens.specs.declared.token.Token.TheVariants.{End}
use Rattle.qbf_text.specs.Ahead.{ahead}
use Rattle.std.specs.Io.KnownBytes.{IsAtEnd}
use Rattle.qbf_tokens.specs.Left.{is_separator, is_end, tokens_left, known_left, IsUnbroken}
use Rattle.qbf_tokens.specs.Lined.{Lined}
use Rattle.qbf_text.specs.Reading.{Reading}
use Rattle.qbf_text.specs.Rows.{Row, Ends, Whole, read_from}

-- this holds of the bytes before and after, if they are known; known bytes stay known
abbrev pub IfKnown : (List ℕ → List ℕ → Type 0) → Option (List ℕ) → Option (List ℕ) → Type 0
IfKnown P None new = ⊤
IfKnown P (Some before) None = ⊥
IfKnown P (Some before) (Some after) = P before after

-- there are no bytes here, or they begin with the byte that the text begins with
abbrev pub BeginsAs : List ℕ → List ℕ → Type 0
BeginsAs text [] = ⊤
BeginsAs [] (b ∷ bs) = ⊥
BeginsAs (c ∷ cs) (b ∷ bs) = b ≡ c

-- nothing, or one separator
abbrev pub IsAtMostASeparator : List ℕ → Type 0
IsAtMostASeparator [] = ⊤
IsAtMostASeparator (b ∷ []) = is_separator b ≡ true
IsAtMostASeparator (b ∷ c ∷ cs) = ⊥

-- Skipping bytes yields no token: `here` of them and the rest is `there` of the rest, for the rest that follows and for an empty one.
pub record Skips {R : Type 0} (here there : List ℕ → R) (old new : List ℕ) : Type 0 where
  pub skipped : List ℕ
  pub taken : old ≡ skipped ++ new
  pub spelled : (rest : List ℕ) → BeginsAs new rest → here (skipped ++ rest) ≡ there rest

-- One token was taken: bytes that have none, the run of the token, and at most one separator.
pub record TakesToken (here there : List ℕ → List Lined) (token : Lined) (old new : List ℕ) : Type 0 where
  pub skipped : List ℕ
  pub word : List ℕ
  pub separator : List ℕ
  pub line : ℕ
  pub taken : old ≡ skipped ++ word ++ separator ++ new
  pub nothing : here skipped ≡ (End, line) ∷ []
  pub unbroken : IsUnbroken word
  pub separates : IsAtMostASeparator separator
  pub spelled : (rest : List ℕ) → BeginsAs new rest → here (skipped ++ word ++ separator ++ rest) ≡ token ∷ there rest

-- the tokens of bytes that stand next at a place in the text
abbrev pub tokens_at : Place → List ℕ → List Lined
tokens_at p = tokens_left p.comments p.begun p.line

-- the tokens that are left there, if the bytes are known
abbrev pub left_at : Place → Option (List ℕ) → Option (List Lined)
left_at p remaining = known_left p.comments p.begun p.line (ahead p.window remaining)

-- the tokens of bytes that a scanner meets next
abbrev pub tokens_next : Reading → List ℕ → List Lined
tokens_next r = tokens_left r.comments r.begun r.line

-- from one place to another no token was taken
abbrev pub PlaceSkips : Place → Option (List ℕ) → Place → Option (List ℕ) → Type 0
PlaceSkips p before q after = IfKnown (Skips (tokens_at p) (tokens_at q)) (ahead p.window before) (ahead q.window after)

-- from one place to another one token was taken
abbrev pub PlaceTakes : Place → Option (List ℕ) → Place → Option (List ℕ) → Lined → Type 0
PlaceTakes p before q after token =
    IfKnown (TakesToken (tokens_at p) (tokens_at q) token) (ahead p.window before) (ahead q.window after)

-- one token was taken, and it is not End
pub record FindsToken (p : Place) (before : Option (List ℕ)) (q : Place) (after : Option (List ℕ)) (token : Lined) : Type 0 where
  pub takes : PlaceTakes p before q after token
  pub no_end : is_end token.0 ≡ false

-- no token was taken, and End alone is left
pub record FindsEnd (p : Place) (before : Option (List ℕ)) (q : Place) (after : Option (List ℕ)) : Type 0 where
  pub skips : PlaceSkips p before q after
  pub left : IfSome (left_at q after) (λ left. left ≡ (End, q.line) ∷ [])
  pub at_end : IsAtEnd after

-- from one reading to another no token was taken
abbrev pub ScannerSkips : Reading → Option (List ℕ) → Reading → Option (List ℕ) → Type 0
ScannerSkips r before s after = IfKnown (Skips (tokens_next r) (tokens_next s)) (ahead r.pending before) (ahead s.pending after)

-- `Takes` of a scanner's text: of the reading before and after, and of the bytes that remain in the source
abbrev pub ScannerTakes : Reading → Option (List ℕ) → Reading → Option (List ℕ) → Lined → Type 0
ScannerTakes r before s after token =
    IfKnown (TakesToken (tokens_next r) (tokens_next s) token) (ahead r.pending before) (ahead s.pending after)

-- Of the bytes before, no more was taken than what spells the result: the run of the last token is needed, since without it the
-- last state is not left, and after it at most one separator was taken. `here` says what tokens bytes have before, and `there` what
-- they have afterwards.
pub record StopsAfter {P A F : Type 0} (row : P → Token → Row P A F) (first next : P) (result : A) (here there : List ℕ → List Lined)
    (old new : List ℕ) : Type 0 where
  pub before : List ℕ
  pub word : List ℕ
  pub separator : List ℕ
  pub last : P
  pub token : Token
  pub line : ℕ
  pub taken : old ≡ before ++ word ++ separator ++ new
  pub unbroken : IsUnbroken word
  pub separates : IsAtMostASeparator separator
  pub ends : row last token ≡ Ends result next
  pub no_end : is_end token ≡ false
  -- the bytes before that run lead to the last state
  pub unread : read_from row first (here before) ≡ read_from row last ((End, line) ∷ [])
  -- with it they give the result, whether the text goes on as it does or ends there
  pub whole : (rest : List ℕ) → BeginsAs new rest → read_from row first (here (before ++ word ++ separator ++ rest)) ≡ Whole result next (there rest)

-- some row ends with the result on a token; if that is not End, at most one separator is taken after it, and this holds too
abbrev pub Stops : {P A F : Type 0} → (P → Token → Row P A F) → P → P → (here there : List ℕ → List Lined) → Option (List ℕ)
    → Option (List ℕ) → Type 0 → Result A (ReadError F) → Type 0
Stops {P = P} row first next here there before after few (Ok a) = (state : P) × (token : Token) × (row state token ≡ Ends a next)
    × (is_end token ≡ false → IfKnown (StopsAfter row first next a here there) before after × few)
Stops row first next here there before after few (Err e) = ⊤
