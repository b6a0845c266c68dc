-- From a verdict to the report of a job.
use Rattle.std.proofs.Common.{arith, nat_eq, if◌then◌else◌, ◌≡◌, ◌∙◌, ℕ, Bool, List, Option, Some, IfSome, inl, inr, sym, ap}
use Rattle.std.proofs.Common.{Result, Ok, Err, IfOk, OnOk}
use Rattle.std.proofs.lemmas.Grind.{common_steps}
use Rattle.qrp_cli.specs.declared.job.Job.{Job}
use Rattle.qrp_cli.specs.declared.job.Job.TheVariants as job
use Rattle.qrp_rules.specs.declared.rules.Rules.{Rules}
use Rattle.trace_check.specs.declared.verified.Verified.{Verified}
use Rattle.qrp_check.specs.declared.verdict.Fault.{Fault}
use Rattle.std.specs.Io.KnownBytes.{Appends}
use Rattle.qbf_text.specs.declared.sink.Sink as sinks
use Rattle.trace_check.specs.declared.fault.CheckFault.TheVariants.{C1, C2, C3, C4, C5, C6}
use Rattle.qrp_check.specs.Headline.{Headline}
use Rattle.qrp_report.specs.Lines.{fault_line, verdict_line}
use Rattle.qrp_report.specs.Refusals.{fault_status, formula_number, trace_number}
use Rattle.qrp_cli.specs.Output.{PrintsVerdict, check_report, refusals, trimmed_result}
use Rattle.qrp_program.specs.Output.{IsOn, IsReportedTo, IsSent, refusal, success}
use Rattle.trace_items.specs.Derivations.{Derivation}
use Rattle.qrp_check.specs.Checked.{SourceCall, IsChecked, StopsOnceRead, WasReadFrom, truth_of, verdict_of}
use Rattle.qrp_check.specs.declared.verdict.Fault.TheVariants as fault
use Rattle.qrp_report.specs.Results.{IsTrimmed}
use Rattle.qrp_report.proofs.ResultsOfBytes.{trims}

-- a check is reported on the first sink
pub on_out : (rules : Rules) (answer : Result Verified Fault) (out errors : Type 0) → out → IsOn (check_report rules answer).stream out errors
on_out rules (Ok v) out errors h = h
on_out rules (Err e) out errors h = h

-- the report of a truth, and of a fault, is that of a verdict that has it
pub truth_report : (rules : Rules) (truth : Bool) (verdict : Result Verified Fault) → ◌≡◌ {A = Result Bool Fault} (Ok truth) (truth_of verdict)
    → check_report rules verdict ≡ success (verdict_line truth)
truth_report by truth (Ok v) is = let same : truth ≡ v.truth = cc is in ap (λ b. success (verdict_line b)) (sym same)
truth_report by truth (Err e) is = absurd (cc is)

pub fault_report : (rules : Rules) (e : Fault) (verdict : Result Verified Fault) → ◌≡◌ {A = Result Bool Fault} (Err e) (truth_of verdict)
    → check_report rules verdict ≡ refusal (refusals (job.Check rules)) e
fault_report by e (Ok v) is = absurd (cc is)
fault_report by e (Err f) is = let same : e ≡ f = cc is in ap (refusal (refusals (job.Check by))) (sym same)

-- the status of a refusal is not 0
abbrev text_status : ℕ → ℕ
text_status n = if nat_eq n 1 then 3 else (if nat_eq n 9 then 4 else 2)

text_refused : (n : ℕ) → text_status n ≡ 0 → ⊥
text_refused n is = grind (arith, common_steps)

pub is_refused : (e : Fault) → fault_status e ≡ 0 → ⊥
is_refused (fault.Formula e line) is = text_refused (formula_number e) is
is_refused (fault.Trace e line) is = text_refused (trace_number e) is
is_refused (fault.Check C5) is = omega (arith, is)
is_refused (fault.Check C4) is = omega (arith, is)
is_refused (fault.Check (C1 v)) is = omega (arith, is)
is_refused (fault.Check (C2 v)) is = omega (arith, is)
is_refused (fault.Check (C3 v)) is = omega (arith, is)
is_refused (fault.Check (C6 n s)) is = omega (arith, is)

-- the rules of a check
pub same_rules : (a b : Rules) → job.Check a ≡ job.Check b → a ≡ b
same_rules a b e = cc e

-- a text that was sent with status 0 went out whole
pub sent_whole : {S : Type 0} (sink : sinks.Ghosts S) (old new : S) (text : List ℕ) (status returned : ℕ)
    → IsSent sink old new text status 3 returned → returned ≡ 0 → Appends (sink.written old) (sink.written new) text × (status ≡ 0)
sent_whole sink old new text status returned (inl sent) zero = (sent.0, sym sent.3 ∙ zero)
sent_whole sink old new text status returned (inr failed) zero = absurd (omega (arith, failed.3, zero))

-- with status 0 a check prints the line of a verdict, for which the headline holds
pub prints_verdict : {S : Type 0} (sink : sinks.Ghosts S) (old new : S) (rules : Rules) (formula trace : Option (List ℕ)) (a b : List ℕ)
    (checked : Result Verified Fault) (returned : ℕ) → IfSome formula (λ a. IfSome trace (λ b. Headline rules a b checked))
    → formula ≡ Some a → trace ≡ Some b → IsReportedTo sink old new (check_report rules checked) returned → returned ≡ 0
    → PrintsVerdict sink old new rules a b
prints_verdict sink old new rules formula trace a b (Ok v) returned holds is_a is_b sent zero =
    (v, rw is_b at (rw is_a at holds), (sent_whole sink old new (verdict_line v.truth) 0 returned sent zero).0)
prints_verdict sink old new rules formula trace a b (Err e) returned holds is_a is_b sent zero =
    absurd (is_refused e (sent_whole sink old new (fault_line e) (fault_status e) returned sent zero).1)

-- a trace that was read and verified is trimmed, and a fault is that of the check
pub trims_result : (rules : Rules) (formula trace : SourceCall) (proof : Result (Derivation × Verified) Fault)
    → IsChecked rules formula trace (verdict_of proof) → OnOk proof ((formula.after ≡ formula.before) × (trace.after ≡ trace.before))
    → IfOk proof (λ r. WasReadFrom trace.bytes r.0) → IsTrimmed rules formula trace (trimmed_result proof)
trims_result rules formula trace (Ok r) checked works reads = trims rules formula trace r.0 r.1 checked works reads
trims_result rules formula trace (Err e) checked works reads = checked

-- the bytes that were taken of the trace are the same for the trimmed trace
pub trimmed_stops : (before after : Option (List ℕ)) (proof : Result (Derivation × Verified) Fault)
    → StopsOnceRead before after (verdict_of proof) → StopsOnceRead before after (trimmed_result proof)
trimmed_stops before after (Ok r) stops = stops
trimmed_stops before after (Err (fault.Formula e line)) stops = λ no. absurd no
trimmed_stops before after (Err (fault.Trace e line)) stops = λ no. absurd no
trimmed_stops before after (Err (fault.Check e)) stops = stops
