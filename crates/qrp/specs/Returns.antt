-- The results of the calls that read a whole trace.
use Rattle.std.specs.Prelude.{◌≡◌, ◌≤◌, ℕ, List, ◌++◌, length, Bool, true, false, Option, option_map, Result, Ok, Err, IfOk}
use Rattle.dimacs_syntax.specs.Cited.{Lined}
use Rattle.qbf_text.specs.WholeTexts as whole_texts
use Rattle.qbf_text.specs.WholeTexts.{TellsFailures}
use Rattle.qbf_tokens.specs.Left.{IsUnbroken}
use Rattle.qrp.specs.declared.fault.TraceFault.{TraceFault}
use Rattle.qbf_text.specs.Stopping.{IfKnown, IsAtMostASeparator}
use Rattle.qrp.specs.declared.fault.TraceFault.TheVariants.{P1, P7, P9}
use Rattle.trace_items.specs.Derivations.{Derivation}
use Rattle.qrp.specs.Grammar.{IsTrace}
use Rattle.qrp.specs.Reading.{Fault, read_trace}
use Rattle.qrp.specs.Faults.{IsFault}

-- the result of reading these bytes, if they are known
abbrev pub reads_bytes : Option (List ℕ) → Option (Result Derivation Fault)
reads_bytes bytes = option_map read_trace bytes

-- the source failed, or an allocation failed
abbrev pub is_outside : TraceFault → Bool
is_outside P1 = true
is_outside P9 = true
is_outside f = false

-- the result is what was read, unless the source failed or an allocation failed
abbrev pub Gives : Result Derivation Fault → Option (Result Derivation Fault) → Type 0
Gives result whole = whole_texts.Gives is_outside result whole

-- the result is the trace that the tokens spell, or the fault that stands in them, unless the source failed or an allocation failed
abbrev pub IsReadAs : List Lined → Result Derivation Fault → Type 0
IsReadAs ts result = whole_texts.IsReadAs is_outside IsTrace IsFault ts result

-- The bytes that were consumed end with the result word and at most one separator. Up to 4,096 bytes that come next may be consumed too,
-- since a source is pulled for many bytes at once: they are held, no token is made of them, and they are lost with the reader.
pub record StopsAfterResult (d : Derivation) (bytes rest : List ℕ) : Type 0 where
  pub before : List ℕ
  pub word : List ℕ
  pub separator : List ℕ
  pub held : List ℕ
  pub consumed : bytes ≡ before ++ word ++ separator ++ held ++ rest
  pub unbroken : IsUnbroken word
  pub separates : IsAtMostASeparator separator
  pub few : length held ≤ 4096
  -- without that word the trace has no result
  pub missing : (line : ℕ) × (read_trace before ≡ Err (P7, line))
  -- with it the trace is whole
  pub whole : read_trace (before ++ word ++ separator) ≡ Ok d

-- A call that reads a trace from a source, if the source had these bytes still to give before and after, and had failed so often:
-- it gives what the bytes read as, takes nothing past the result word but what is held, and tells of its devices.
pub record ReadsTrace (before after : Option (List ℕ)) (old new : ℕ) (result : Result Derivation Fault) : Type 0 where
  pub exact : Gives result (reads_bytes before)
  pub stops : IfOk result (λ d. IfKnown (StopsAfterResult d) before after)
  pub devices : TellsFailures P1 P9 old new result
