-- The buffered bytes that were passed: tokens that stand there whole, whatever bytes follow.
use Rattle.std.specs.Prelude.{◌≡◌, ℕ, ◌<◌, ◌≤◌, false, List, ◌++◌, drop, length, Option, Some, None}
use Rattle.qbf_tokens.specs.declared.token.Token.{Token}
use Rattle.qbf_tokens.specs.Left.{is_end}
use Rattle.qbf_tokens.specs.Lined.{Lined}
use Rattle.window_numbers.specs.Cursors.{is_begun, one_if, Passes, PassesToken}
use Rattle.window_numbers.specs.declared.cursor.Cursor.{Cursor}
use Rattle.qbf_text.specs.Ahead.{ahead}
use Rattle.qbf_text.specs.Reading.{Reading, GivesNext, left}
use Rattle.qbf_text.specs.Rows.{Row, Ends, read_from, reads_from}
use Rattle.qbf_text.specs.Stopping.{BeginsAs, IfKnown, ScannerTakes, tokens_next}

-- the cursor at the first of the buffered bytes
abbrev pub cursor : Reading → Cursor
cursor r = record { at = 0; line = r.line; tokens = one_if r.begun }

-- a scanner that went to a cursor
abbrev pub scanner_at : Reading → Cursor → Reading
scanner_at r here = record r { line = here.line; begun = is_begun here; pending = drop here.at r.pending }

-- tokens lead from one state to another
abbrev pub LeadOn : {P A F : Type 0} → (P → Token → Row P A F) → P → P → List Lined → Type 0
LeadOn row first state given = (ts : List Lined) → read_from row first (given ++ ts) ≡ read_from row state ts

-- tokens lead from one state to another, and there one token more ends what is read
pub record PassesLast {P A F : Type 0} (row : P → Token → Row P A F) (first next : P) (result : A) (bytes : List ℕ) (from to : Cursor)
    : Type 0 where
  pub last : P
  pub token : Token
  pub here : Cursor
  pub leads : Passes (LeadOn row first last) bytes from here
  pub passes : PassesToken bytes here to token
  pub ends : row last token ≡ Ends result next

-- a grammar took tokens from the buffered bytes: they lead to the next state, or the last of them ends what is read, with a result
abbrev pub PassesAll : {P A F : Type 0} → (P → Token → Row P A F) → (first next : P) → List ℕ → (from to : Cursor) → Option A → Type 0
PassesAll row first next bytes from to None = Passes (LeadOn row first next) bytes from to
PassesAll row first next bytes from to (Some result) = PassesLast row first next result bytes from to

-- the text that was read so far: the tokens of the bytes that were taken lead from the first state to this one
pub record SoFar {P A F : Type 0} (row : P → Token → Row P A F) (first state : P) (here there : List ℕ → List Lined)
    (old new : List ℕ) : Type 0 where
  pub front : List ℕ
  pub given : List Lined
  pub taken : old ≡ front ++ new
  pub spelled : (rest : List ℕ) → BeginsAs new rest → here (front ++ rest) ≡ given ++ there rest
  pub leads : (ts : List Lined) → read_from row first (given ++ ts) ≡ read_from row state ts

-- between two places of a scanner the tokens lead from one state to another
abbrev pub LeadsBetween : {P A F : Type 0} → (P → Token → Row P A F) → (first next : P) → (r s : Reading) → Option (List ℕ) → Type 0
LeadsBetween row first next r s remaining =
    IfKnown (SoFar row first next (tokens_next r) (tokens_next s)) (ahead r.pending remaining) (ahead s.pending remaining)
    × (reads_from row first (left r remaining) ≡ reads_from row next (left s remaining))

-- and then one token more ends what is read
pub record ReadsLast {P A F : Type 0} (row : P → Token → Row P A F) (first next : P) (result : A) (r s : Reading)
    (remaining : Option (List ℕ)) : Type 0 where
  pub last : P
  pub token : Lined
  pub mid : Reading
  pub leads : LeadsBetween row first last r mid remaining
  pub gives : GivesNext (left mid remaining) (left s remaining) token
  pub takes : ScannerTakes mid remaining s remaining token
  pub ends : row last token.0 ≡ Ends result next
  pub no_end : is_end token.0 ≡ false
  pub less : length s.pending < length r.pending
  pub few : length s.pending ≤ 4096

-- a scanner read some of the buffered bytes: their tokens lead from one state to another, or the last of them ends the text with a result
abbrev pub ReadsBuffered : {P A F : Type 0} → (P → Token → Row P A F) → (first next : P) → (r s : Reading) → Option (List ℕ) → Option A
    → Type 0
ReadsBuffered row first next r s remaining None = LeadsBetween row first next r s remaining
ReadsBuffered row first next r s remaining (Some result) = ReadsLast row first next result r s remaining
