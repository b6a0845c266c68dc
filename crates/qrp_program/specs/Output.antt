-- The report of a program, and the stream that it goes to.
use Rattle.std.specs.Prelude.{◌≡◌, ℕ, List, ◌⊎◌}
use Rattle.std.specs.Io.KnownBytes.{Appends}
use Rattle.qbf_text.specs.declared.sink.Sink.{Ghosts}
use Rattle.qbf_text.specs.Written.{AppendsFront}
use Rattle.qrp_check.specs.declared.verdict.Fault.{Fault}
use Rattle.qrp_program.specs.declared.stream.Stream.{Stream}
use Rattle.qrp_program.specs.declared.stream.Stream.TheVariants.{Out, Errors}
use Rattle.qrp_program.specs.declared.stream.Streams.{Streams}
use Rattle.qrp_report.specs.Lines.{fault_line}
use Rattle.qrp_report.specs.Refusals.{fault_status}
use Rattle.qrp_report.specs.Results.{DeviceFailed}

-- a report: a text, the stream that it goes to, the status, and the status if that stream fails
pub record Report : Type 0 where
  pub stream : Stream
  pub text : List ℕ
  pub status : ℕ
  pub failed : ℕ

-- a text that was asked for
abbrev pub success : List ℕ → Report
success t = record { stream = Out; text = t; status = 0; failed = 3 }

-- a refusal of a text or of the proof
abbrev pub refusal : Stream → Fault → Report
refusal s e = record { stream = s; text = fault_line e; status = fault_status e; failed = 3 }

-- A text is to go out to a sink, which went from `old` to `new`: all of the text went out, nothing of it is held back, and the
-- status is returned; or the sink failed, a beginning of the text went out, the sink was not called again, and the status for that is
-- returned.
abbrev pub IsSent : {S : Type 0} → Ghosts S → S → S → List ℕ → ℕ → ℕ → ℕ → Type 0
IsSent sink old new text status failed returned =
    (Appends (sink.written old) (sink.written new) text × (sink.failures new ≡ sink.failures old) × sink.finished new × (returned ≡ status))
    ⊎ (AppendsFront (sink.written old) (sink.written new) text × DeviceFailed (sink.failures old) (sink.failures new) × sink.failed_last new
    × (returned ≡ failed))

-- the report is to go out to a sink, which went from `old` to `new`
abbrev pub IsReportedTo : {S : Type 0} → Ghosts S → S → S → Report → ℕ → Type 0
IsReportedTo sink old new r returned = IsSent sink old new r.text r.status r.failed returned

-- the first of two statements for a report to `Out`, and the second for one to `Errors`
abbrev pub IsOn : Stream → Type 0 → Type 0 → Type 0
IsOn Out on_out on_errors = on_out
IsOn Errors on_out on_errors = on_errors

-- The report went out to its stream and the status is returned; the other one of the two streams, which went from `old` to `new`, is as it
-- was.
abbrev pub IsReported : {O E : Type 0} → Ghosts O → Ghosts E → Streams O E → Streams O E → Report → ℕ → Type 0
IsReported o e old new r returned =
    IsOn r.stream (IsReportedTo o old.out new.out r returned × (new.err ≡ old.err)) (IsReportedTo e old.err new.err r returned × (new.out ≡ old.out))
