-- The program: the trace that it reads, the text that it writes, and the status that it returns.
use Rattle.std.specs.Prelude.{◌≡◌, ◌≢◌, ◌⊎◌, ℕ, ◌-◌, ◌^◌, ◌<◌, List, Option, Result, Ok, Err}
use Rattle.std.specs.Io.KnownBytes.{Appends}
use Rattle.qbf_text.specs.declared.sink.Sink.{Ghosts}
use Rattle.qbf_text.specs.Written.{AppendsFront}
use Rattle.qrp.specs.declared.fault.TraceFault.{TraceFault}
use Rattle.qrp.specs.declared.fault.TraceFault.TheVariants.{P1, P9}
use Rattle.qrp.specs.Returns.{Gives, reads_bytes}
use Rattle.trace_items.specs.Derivations.{Derivation}
use Rattle.qrp.specs.Reading.{Fault}

-- 1: the bytes are not a trace; 3: the source failed; 4: an allocation failed
abbrev pub status_of : TraceFault → ℕ
status_of P1 = 3
status_of P9 = 4
status_of f = 1

-- a device failed in a call: its count of failures rose, if it was below the limit before
abbrev pub DeviceFailed : ℕ → ℕ → Type 0
DeviceFailed before after = before < 2 ^ 64 - 1 → before < after

-- The result of reading a source, whose count of failures goes from `before` to `after`: the trace or the fault that its bytes
-- spell, if they are known; or P1 if it failed, or P9 if an allocation failed.
abbrev pub IsRead : Option (List ℕ) → ℕ → ℕ → Result Derivation Fault → Type 0
IsRead bytes before after (Ok d) = Gives (Ok d) (reads_bytes bytes) × (after ≡ before)
IsRead bytes before after (Err e) =
    Gives (Err e) (reads_bytes bytes) × (e.0 ≡ P1 → DeviceFailed before after) × (e.0 ≢ P1 → after ≡ before)

-- A sink went from `old` to `new`: all of the text went out, nothing of it is held back, and 0 is returned; or the sink
-- failed, a beginning of the text went out, and 3 is returned.
abbrev pub IsEchoed : {S : Type 0} → Ghosts S → S → S → List ℕ → ℕ → Type 0
IsEchoed sink old new text returned =
    (Appends (sink.written old) (sink.written new) text × (sink.failures new ≡ sink.failures old) × sink.finished new × (returned ≡ 0))
    ⊎ (AppendsFront (sink.written old) (sink.written new) text × DeviceFailed (sink.failures old) (sink.failures new) × (returned ≡ 3))
