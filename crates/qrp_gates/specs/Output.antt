-- The report of each job.
use Rattle.std.specs.Prelude.{◌≡◌, ℕ, Bool, List, Result, Ok, Err}
use Rattle.std.specs.Io.KnownBytes.{Appends}
use Rattle.circuit_cli.specs.Output.{no_circuit}
use Rattle.circuit_names.specs.Symbols.{named_text}
use Rattle.qbf_core.specs.Qbf.{Qbf}
use Rattle.qbf_text.specs.declared.sink.Sink.{Ghosts}
use Rattle.qcir.specs.Grammar.{IsQuestion}
use Rattle.qcir.specs.Reading.{Question}
use Rattle.qdimacs.specs.Grammar.{text}
use Rattle.qrp_check.specs.Checked.{SourceCall}
use Rattle.trace_check.specs.declared.fault.CheckFault.TheVariants.{C5}
use Rattle.qrp_check.specs.declared.verdict.Fault.TheVariants as proof
use Rattle.qrp_rules.specs.declared.rules.Rules.{Rules}
use Rattle.qrp_program.specs.Output.{Report, success}
use Rattle.qrp_program.specs.declared.stream.Stream.{Stream}
use Rattle.qrp_program.specs.declared.stream.Stream.TheVariants.{Out, Errors}
use Rattle.qrp_report.specs.Lines.{verdict_line}
use Rattle.gate_verify.specs.Checked.{IsChecked, StopsOnceRead}
use Rattle.gate_verify.specs.Headline.{Headline}
use Rattle.gate_verify.specs.Laws.{in_clauses}
use Rattle.gate_verify.specs.Made.{AreMade}
use Rattle.gate_verify.specs.declared.fault.Unverified.{Unverified}
use Rattle.gate_verify.specs.declared.fault.Unverified.TheVariants as fault
use Rattle.gate_strategy.specs.Strategies.{IsOfVerdict, IsOfWinner}
use Rattle.gate_strategy.specs.declared.fault.GateStrategyFault.{GateStrategyFault}
use Rattle.gate_strategy.specs.declared.fault.GateStrategyFault.TheVariants.{Check, NoCircuit, NoMemory}
use Rattle.qrp_winner.specs.declared.strategy.Strategy.{Strategy}
use Rattle.gate_report.specs.Lines.{unverified_line}
use Rattle.gate_report.specs.Refusals.{unverified_status}
use Rattle.qrp_gates.specs.declared.job.Job.{Job}
use Rattle.qrp_gates.specs.declared.job.Job.TheVariants as job

-- the stream that refusals go to: for `check` the same as for its verdict, and for a text that is written the other one
abbrev pub refusals : Job → Stream
refusals job.Clauses = Errors
refusals (job.Strategy rules binary) = Errors
refusals (job.Check rules) = Out

-- the refusal of a text or of the proof, or that there are too many clauses
abbrev pub refusal : Stream → Unverified → Report
refusal s e = record { stream = s; text = unverified_line e; status = unverified_status e; failed = 3 }

-- the canonical text of the clauses, or why there are none
abbrev pub clauses_report : Result Qbf Unverified → Report
clauses_report (Ok f) = success (text f)
clauses_report (Err e) = refusal (refusals job.Clauses) e

-- the verdict, or the refusal of a text or of the proof
abbrev pub check_report : Rules → Result Bool Unverified → Report
check_report rules (Ok truth) = success (verdict_line truth)
check_report rules (Err e) = refusal (refusals (job.Check rules)) e

-- the text of the circuit with the names of the formula, or why there is none; out of memory is reported as that of a check
abbrev pub strategy_report : (binary : Bool) → Result (Question × Strategy) GateStrategyFault → Report
strategy_report binary (Ok r) = success (named_text binary r.0.names r.1.circuit)
strategy_report binary (Err (Check e)) = refusal Errors e
strategy_report binary (Err NoMemory) = refusal Errors (fault.Proof (proof.Check C5))
strategy_report binary (Err NoCircuit) = no_circuit

-- the report of a job on its texts; once a trace was read, nothing is taken past its result word but what is held
abbrev pub IsOutput : Job → SourceCall → SourceCall → Report → Type 0
IsOutput job.Clauses question trace r = (made : Result Qbf Unverified) × AreMade question made × (r ≡ clauses_report made)
IsOutput (job.Check rules) question trace r =
    (checked : Result Bool Unverified) × IsChecked rules question trace checked × StopsOnceRead trace.bytes trace.rest checked
    × (r ≡ check_report rules checked)
IsOutput (job.Strategy rules binary) question trace r =
    (found : Result (Question × Strategy) GateStrategyFault) × IsOfVerdict rules question trace found × (r ≡ strategy_report binary found)

-- The line of a verdict on these bytes went out to a sink, and the headline holds for the verdict.
abbrev pub PrintsVerdict : {S : Type 0} → Ghosts S → S → S → Rules → List ℕ → List ℕ → Type 0
PrintsVerdict sink old new rules question trace =
    (truth : Bool) × Headline rules question trace (Ok truth) × Appends (sink.written old) (sink.written new) (verdict_line truth)

-- The bytes spell a formula of gates, and the canonical text of its clauses went out to a sink.
abbrev pub WritesClauses : {S : Type 0} → Ghosts S → S → S → List ℕ → Type 0
WritesClauses sink old new question =
    (q : Question) × IsQuestion question q × Appends (sink.written old) (sink.written new) (text (in_clauses q.formula))

-- The text of a circuit went out to a sink, and the bytes spell a formula of gates whose winner wins by the circuit; the text has the names
-- that these bytes give to its variables.
abbrev pub WritesStrategy : {S : Type 0} → Ghosts S → S → S → (binary : Bool) → List ℕ → List ℕ → Type 0
WritesStrategy sink old new binary question trace =
    (w : Question × Strategy) × IsOfWinner question trace w
    × Appends (sink.written old) (sink.written new) (named_text binary w.0.names w.1.circuit)
