-- The results of the calls that read by rows.
use Rattle.std.specs.Prelude.{◌≡◌, ◌-◌, ◌^◌, ◌<◌, ℕ, List, true, false, Option, Some, None, IfSome, Result, Ok, Err, ⊤}
use Rattle.qbf_tokens.specs.declared.token.Token.{Token}
use Rattle.qbf_tokens.specs.Lined.{Lined, Known}
use Rattle.qbf_tokens.specs.Left.{is_end}
use Rattle.qbf_text.specs.Rows.{Row, Goes, Ends, Fails, Read, Whole, Fault}
use Rattle.qbf_text.specs.declared.grammar.Taken.{Taken}
use Rattle.qbf_text.specs.declared.grammar.Taken.TheVariants as taken
use Rattle.qbf_text.specs.declared.grammar.Stop.{Stop}
use Rattle.qbf_text.specs.declared.grammar.Stop.TheVariants as stop
use Rattle.qbf_text.specs.declared.grammar.ReadError.{ReadError}
use Rattle.qbf_text.specs.declared.grammar.ReadError.TheVariants as error

-- a token was taken as its row says, unless an allocation failed
abbrev pub Takes : {P A F : Type 0} → Row P A F → P → Result (Taken A) (Stop F) → Type 0
Takes r next (Ok taken.More) = r ≡ Goes next
Takes r next (Ok (taken.Done a)) = r ≡ Ends a next
Takes r next (Err stop.Memory) = ⊤
Takes r next (Err (stop.Text f)) = r ≡ Fails f

-- a token after which reading goes on is not End
abbrev pub StaysOpen : {A F : Type 0} → Token → Result (Taken A) (Stop F) → Type 0
StaysOpen t (Ok taken.More) = is_end t ≡ false
StaysOpen t (Ok (taken.Done a)) = ⊤
StaysOpen t (Err e) = ⊤

-- all was read, and these tokens are left
abbrev pub Leaves : {P A F : Type 0} → Option (Read P A F) → A → P → Known → Type 0
Leaves None a next rest = ⊤
Leaves (Some r) a next None = ⊥
Leaves (Some r) a next (Some ts) = r ≡ Whole a next ts

-- the result is what was to be read, unless the source failed or an allocation failed
abbrev pub ReadsWhole : {P A F : Type 0} → Option (Read P A F) → P → Known → Result A (ReadError F) → Type 0
ReadsWhole whole next rest (Ok a) = Leaves whole a next rest
ReadsWhole whole next rest (Err error.Device) = ⊤
ReadsWhole whole next rest (Err error.Memory) = ⊤
ReadsWhole whole next rest (Err (error.Text f line)) = IfSome whole (λ r. r ≡ Fault f line)

-- the count of failures rose exactly if the source failed, unless it was at its top
abbrev pub Counts : {A F : Type 0} → ℕ → ℕ → Result A (ReadError F) → Type 0
Counts old new (Ok a) = new ≡ old
Counts old new (Err error.Device) = old < 2 ^ 64 - 1 → old < new
Counts old new (Err error.Memory) = new ≡ old
Counts old new (Err (error.Text f line)) = new ≡ old

-- of known tokens a call returns the result of reading them by rows; of a failed source or allocation nothing is said
abbrev pub ReadsKnown : {P A F : Type 0} → Read P A F → P → Result A (ReadError F) → Type 0
ReadsKnown whole next (Ok a) = (rest : List Lined) × (whole ≡ Whole a next rest)
ReadsKnown whole next (Err error.Device) = ⊤
ReadsKnown whole next (Err error.Memory) = ⊤
ReadsKnown whole next (Err (error.Text f line)) = whole ≡ Fault f line

-- the result is what a row says of the last token, unless the source failed or an allocation failed; `open_` holds if that token is not
-- End, and `ended` if it is
abbrev pub Follows : {P A F : Type 0} → (P → Token → Row P A F) → P → Type 0 → Type 0 → Result A (ReadError F) → Type 0
Follows {P = P} row next open_ ended (Ok a) =
    (state : P) × (token : Token) × (row state token ≡ Ends a next) × (is_end token ≡ false → open_) × (is_end token ≡ true → ended)
Follows row next open_ ended (Err error.Device) = ⊤
Follows row next open_ ended (Err error.Memory) = ⊤
Follows {P = P} row next open_ ended (Err (error.Text f line)) = (state : P) × (token : Token) × (row state token ≡ Fails f)
