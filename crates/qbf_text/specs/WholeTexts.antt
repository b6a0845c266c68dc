-- The result of a call that reads a text, in any format: what the text spells, or its first fault and the line of that; and what it tells
-- of its devices.
use Rattle.std.specs.Prelude.{◌≡◌, ◌≢◌, ◌<◌, ◌-◌, ◌^◌, ℕ, Bool, true, false, List, ◌∷◌, ◌++◌, Option, IfSome, IfErr, OnOk, Result, Ok, Err}
use Rattle.qbf_text.specs.declared.grammar.ReadError.{ReadError}
use Rattle.qbf_text.specs.declared.grammar.ReadError.TheVariants as error
use Rattle.qbf_tokens.specs.declared.token.Comments.{Comments}
use Rattle.qbf_tokens.specs.declared.token.Token.{Token}
use Rattle.qbf_tokens.specs.Lined.{Lined, without_lines, EndsOnce}
use Rattle.qbf_tokens.specs.Tokens.{tokens}

-- The fault stands on this line: the tokens before it spell a state, and that state refuses this one.
pub record IsFault {P F : Type 0} (Spells : List Token → P → Type 0) (Refuses : P → Token → F → Type 0) (ts : List Lined) (fault : F)
    (line : ℕ) : Type 0 where
  pub before : List Lined
  pub wrong : Token
  pub after : List Lined
  pub whole : ts ≡ before ++ (wrong, line) ∷ after
  pub state : P
  pub stands : Spells (without_lines before) state
  pub refused : Refuses state wrong fault

-- The result that tokens read as: what they spell, or the fault that stands.
abbrev pub Reads : {A F : Type 0} → (List Token → A → Type 0) → (List Lined → F → ℕ → Type 0) → List Lined → Result A (F × ℕ) → Type 0
Reads Spelled Stands ts (Ok a) = Spelled (without_lines ts) a
Reads Spelled Stands ts (Err e) = Stands ts e.0 e.1

-- this holds, unless something else is to blame
abbrev pub Unless : Bool → Type 0 → Type 0
Unless true A = Unit {0}
Unless false A = A

-- A result says what the tokens spell, or the fault that stands, or that something outside the text failed: the source or an allocation.
abbrev pub IsReadAs : {A F : Type 0} → (F → Bool) → (List Token → A → Type 0) → (List Lined → F → ℕ → Type 0) → List Lined
    → Result A (F × ℕ) → Type 0
IsReadAs outside Spelled Stands ts (Ok a) = Spelled (without_lines ts) a
IsReadAs outside Spelled Stands ts (Err e) = Unless (outside e.0) (Stands ts e.0 e.1)

-- The result is what was to be read, as far as that is known, unless the source failed or an allocation failed.
abbrev pub Gives : {A F : Type 0} → (F → Bool) → Result A (F × ℕ) → Option (Result A (F × ℕ)) → Type 0
Gives outside (Ok a) whole = IfSome whole (λ r. r ≡ Ok a)
Gives outside (Err e) whole = Unless (outside e.0) (IfSome whole (λ r. r ≡ Err (e.0, e.1)))

-- the fault and the line that an error stands for, by the faults of source and memory
abbrev pub fault_of : {F : Type 0} → F → F → ReadError F → F × ℕ
fault_of device memory error.Device = (device, 0)
fault_of device memory error.Memory = (memory, 0)
fault_of device memory (error.Text f line) = (f, line)

-- How a result tells of its devices: `device` is the fault of a failed source and `memory` that of a failed allocation, and the count of
-- failures of the source went from `before` to `after`.
pub record TellsFailures {A F : Type 0} (device memory : F) (before after : ℕ) (result : Result A (F × ℕ)) : Type 0 where
  -- with the fault of a failed source it failed, unless the count was at its top
  pub source : IfErr result (λ e. e.0 ≡ device → before < 2 ^ 64 - 1 → before < after)
  -- with any other fault it did not fail
  pub kept : IfErr result (λ e. e.0 ≢ device → after ≡ before)
  -- nor without a fault
  pub works : OnOk result (after ≡ before)
  -- if it failed, the result says so
  pub failed : before < after → result ≡ Err (device, 0)
  -- that fault stands on line 0
  pub source_line : IfErr result (λ e. e.0 ≡ device → e.1 ≡ 0)
  -- and so does that of a failed allocation
  pub memory_line : IfErr result (λ e. e.0 ≡ memory → e.1 ≡ 0)

-- ---- laws

-- tokens that end read as something
abbrev pub ReadsAsRead : {R : Type 0} → (List Lined → R → Type 0) → (List Lined → R) → Type 0
ReadsAsRead Reads read = (ts : List Lined) → EndsOnce ts → Reads ts (read ts)

-- and as nothing else
abbrev pub ReadsOnce : {R : Type 0} → (List Lined → R → Type 0) → (List Lined → R) → Type 0
ReadsOnce {R} Reads read = (ts : List Lined) (r : R) → Reads ts r → read ts ≡ r

-- and bytes as what their tokens read as
abbrev pub BytesRead : {R : Type 0} → (List Lined → R → Type 0) → (List Lined → R) → Comments → Type 0
BytesRead Reads read format = (bytes : List ℕ) → Reads (tokens format bytes) (read (tokens format bytes))
