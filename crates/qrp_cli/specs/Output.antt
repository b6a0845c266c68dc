-- The report of each job.
use Rattle.std.specs.Prelude.{◌≡◌, ℕ, List, ◌⊎◌, Result, Ok, Err}
use Rattle.std.specs.Io.KnownBytes.{Appends}
use Rattle.qbf_core.specs.Qbf.{Qbf}
use Rattle.qbf_text.specs.declared.sink.Sink.{Ghosts}
use Rattle.qdimacs.specs.declared.fault.FormulaFault.{FormulaFault}
use Rattle.qdimacs.specs.Grammar.{text}
use Rattle.qrp_cli.specs.declared.job.Job.{Job}
use Rattle.qrp_cli.specs.declared.job.Job.TheVariants as job
use Rattle.qrp_rules.specs.declared.rules.Rules.{Rules}
use Rattle.trace_check.specs.declared.verified.Verified.{Verified}
use Rattle.qrp_check.specs.declared.verdict.Fault.{Fault}
use Rattle.qrp_check.specs.declared.verdict.Fault.TheVariants as fault
use Rattle.trace_items.specs.Derivations.{Derivation}
use Rattle.qrp.specs.Grammar as trace
use Rattle.qrp_check.specs.Checked.{SourceCall, IsChecked, StopsOnceRead}
use Rattle.qrp_check.specs.Headline.{Headline}
use Rattle.trace_check.specs.Trim.{trimmed_trace}
use Rattle.qrp_program.specs.Output.{Report, refusal, success}
use Rattle.qrp_program.specs.declared.stream.Stream.{Stream}
use Rattle.qrp_program.specs.declared.stream.Stream.TheVariants.{Out, Errors}
use Rattle.qrp_report.specs.Lines.{verdict_line}
use Rattle.qrp_report.specs.Results.{IsFormulaRead, IsTrimmed}

-- the stream that refusals go to: for `check` the same as for its verdict, and for the other jobs the other one
abbrev pub refusals : Job → Stream
refusals (job.Check rules) = Out
refusals (job.Trim rules) = Errors
refusals job.Format = Errors

-- the canonical text, or the refusal of the formula's text
abbrev pub format_report : Result Qbf (FormulaFault × ℕ) → Report
format_report (Ok f) = success (text f)
format_report (Err e) = refusal (refusals job.Format) (fault.Formula e.0 e.1)

-- the verdict, or the refusal of a text or of the proof
abbrev pub check_report : Rules → Result Verified Fault → Report
check_report rules (Ok v) = success (verdict_line v.truth)
check_report rules (Err e) = refusal (refusals (job.Check rules)) e

-- the trimmed trace, if a trace was read and verified
abbrev pub trimmed_result : Result (Derivation × Verified) Fault → Result Derivation Fault
trimmed_result (Ok r) = Ok (trimmed_trace r.0 r.1.core.items)
trimmed_result (Err e) = Err e

-- the canonical text of the trimmed trace, or the refusal of a text or of the proof
abbrev pub trim_report : Rules → Result Derivation Fault → Report
trim_report rules (Ok t) = success (trace.text t)
trim_report rules (Err e) = refusal (refusals (job.Trim rules)) e

-- the report of `format` on a formula's text
abbrev pub IsFormatted : SourceCall → Report → Type 0
IsFormatted formula r = (reading : Result Qbf (FormulaFault × ℕ)) × IsFormulaRead formula reading × (r ≡ format_report reading)

-- the report of a job on its texts; once a trace was read, nothing is taken past its result word but what is held
abbrev pub IsOutput : Job → SourceCall → SourceCall → Report → Type 0
IsOutput job.Format formula trace r = IsFormatted formula r
IsOutput (job.Check rules) formula trace r =
    (result : Result Verified Fault) × IsChecked rules formula trace result × StopsOnceRead trace.bytes trace.rest result
    × (r ≡ check_report rules result)
IsOutput (job.Trim rules) formula trace r =
    (result : Result Derivation Fault) × IsTrimmed rules formula trace result × StopsOnceRead trace.bytes trace.rest result
    × (r ≡ trim_report rules result)

-- The line of a verdict on these bytes went out to a sink, and the headline holds for the verdict.
abbrev pub PrintsVerdict : {S : Type 0} → Ghosts S → S → S → Rules → List ℕ → List ℕ → Type 0
PrintsVerdict sink old new rules formula trace =
    (v : Verified) × Headline rules formula trace (Ok v) × Appends (sink.written old) (sink.written new) (verdict_line v.truth)
