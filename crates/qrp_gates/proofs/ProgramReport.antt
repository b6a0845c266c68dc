-- From what was checked or made to the report of a job.
use Rattle.std.proofs.Common.{arith, ◌≡◌, ◌∙◌, ◌⊎◌, ℕ, Bool, List, Option, Some, IfSome, inl, inr, refl, sym, subst, Result, Ok, Err, IfOk}
use Rattle.std.proofs.lemmas.Grind.{common_steps}
use Rattle.std.specs.Io.KnownBytes.{Appends}
use Rattle.circuit_cli.specs.Output.{no_circuit}
use Rattle.circuit_names.specs.Symbols.{named_text}
use Rattle.qbf_core.specs.Qbf.{Qbf}
use Rattle.qbf_text.specs.declared.sink.Sink as sinks
use Rattle.qcir.specs.Reading.{Question, read_gates}
use Rattle.qcir.specs.declared.fault.QuestionFault.{QuestionFault}
use Rattle.qcir.proofs.Spelled.{reads_questions}
use Rattle.qdimacs.specs.Grammar.{text}
use Rattle.qrp_check.specs.Checked.{SourceCall}
use Rattle.trace_check.specs.declared.fault.CheckFault.TheVariants.{C5}
use Rattle.qrp_check.specs.declared.verdict.Fault.TheVariants as proof
use Rattle.qrp_rules.specs.declared.rules.Rules.{Rules}
use Rattle.qrp_program.specs.Output.{IsOn, IsReported, IsReportedTo}
use Rattle.qrp_program.specs.declared.stream.Streams.{Streams}
use Rattle.qrp_report.specs.Lines.{verdict_line}
use Rattle.qrp_cli.proofs.ProgramReport as cli
use Rattle.gate_verify.specs.Faults.{IsOutOfMemory, IsQuestionDevice}
use Rattle.gate_verify.specs.Headline.{Headline}
use Rattle.gate_verify.specs.Laws.{in_clauses}
use Rattle.gate_verify.specs.Made.{AreClausesOf, AreMade}
use Rattle.gate_verify.specs.declared.fault.Unverified.{Unverified}
use Rattle.gate_verify.specs.declared.fault.Unverified.TheVariants as fault
use Rattle.gate_strategy.specs.Strategies.{IsOfVerdict, IsOfWinner}
use Rattle.gate_strategy.specs.declared.fault.GateStrategyFault.{GateStrategyFault}
use Rattle.gate_strategy.specs.declared.fault.GateStrategyFault.TheVariants as faults
use Rattle.qrp_winner.specs.declared.strategy.Strategy.{Strategy}
use Rattle.gate_report.specs.Lines.{unverified_line}
use Rattle.gate_report.specs.Refusals.{gate_status, question_refusal, unverified_status}
use Rattle.gate_report.specs.declared.refusal.GateRefusal.{GateRefusal}
use Rattle.qrp_gates.specs.Output.{PrintsVerdict, WritesClauses, WritesStrategy, check_report, clauses_report, strategy_report}
use Rattle.qrp_gates.specs.declared.job.Job.TheVariants as job

-- a check is reported on the first sink
pub on_out : (rules : Rules) (checked : Result Bool Unverified) (out errors : Type 0) → out → IsOn (check_report rules checked).stream out errors
on_out rules (Ok t) out errors h = h
on_out rules (Err e) out errors h = h

-- the rules of a check
pub same_rules : (a b : Rules) → job.Check a ≡ job.Check b → a ≡ b
same_rules a b e = cc e

-- the status of a refusal is not 0
gates_refused : (r : GateRefusal) → gate_status r ≡ 0 → ⊥
gates_refused r is = grind (arith, common_steps)

is_refused : (e : Unverified) → unverified_status e ≡ 0 → ⊥
is_refused (fault.Question e n) is = gates_refused (question_refusal e n) is
is_refused fault.TooLong is = omega (arith, is)
is_refused (fault.Proof e) is = cli.is_refused e is

-- with status 0 a check prints the line of a verdict, for which the headline holds
pub prints_verdict : {S : Type 0} (sink : sinks.Ghosts S) (old new : S) (rules : Rules) (question trace : Option (List ℕ)) (a b : List ℕ)
    (checked : Result Bool Unverified) (returned : ℕ) → IfSome question (λ a. IfSome trace (λ b. Headline rules a b checked))
    → question ≡ Some a → trace ≡ Some b → IsReportedTo sink old new (check_report rules checked) returned → returned ≡ 0
    → PrintsVerdict sink old new rules a b
prints_verdict sink old new rules question trace a b (Ok t) returned holds is_a is_b sent zero =
    (t, rw is_b at (rw is_a at holds), (cli.sent_whole sink old new (verdict_line t) 0 returned sent zero).0)
prints_verdict sink old new rules question trace a b (Err e) returned holds is_a is_b sent zero =
    absurd (is_refused e (cli.sent_whole sink old new (unverified_line e) (unverified_status e) returned sent zero).1)

-- the formula of gates of which clauses were made
made_of : (read : Result Question (QuestionFault × ℕ)) (f : Qbf)
    → AreClausesOf read (Ok f) ⊎ (IsOutOfMemory {V = Qbf} (Ok f) ⊎ IsQuestionDevice {V = Qbf} (Ok f))
    → (q : Question) × (read ≡ Ok q) × (f ≡ in_clauses q.formula)
made_of (Ok q) f (inl (sound, is)) = (q, refl, is)
made_of (Err e) f (inl h) = absurd (cc h)
made_of read f (inr (inl h)) = absurd h
made_of read f (inr (inr h)) = absurd h

-- with status 0 the clauses of the formula of gates that the bytes spell are written
pub writes_clauses : {S : Type 0} (sink : sinks.Ghosts S) (old new : S) (question : SourceCall) (a : List ℕ) (made : Result Qbf Unverified)
    (returned : ℕ) → AreMade question made → question.bytes ≡ Some a
    → IsReportedTo sink old new (clauses_report made) returned → returned ≡ 0 → WritesClauses sink old new a
writes_clauses sink old new question a (Ok f) returned made is_a sent zero =
    let w = made_of made.read f made.made in
    let reads : made.read ≡ read_gates a = subst (λ (bytes : Option (List ℕ)). IfSome bytes (λ b. made.read ≡ read_gates b)) is_a made.reads in (
      w.0,
      (reads_questions a w.0).0 (sym reads ∙ w.1),
      subst (λ (g : Qbf). Appends (sink.written old) (sink.written new) (text g)) w.2 (cli.sent_whole sink old new (text f) 0 returned sent zero).0,
    )
writes_clauses sink old new question a (Err e) returned made is_a sent zero =
    absurd (is_refused e (cli.sent_whole sink old new (unverified_line e) (unverified_status e) returned sent zero).1)

-- a report of clauses that were made goes to the first stream
pub of_clauses : {O E : Type 0} (o : sinks.Ghosts O) (e : sinks.Ghosts E) (old new : Streams O E) (made : Result Qbf Unverified)
    (returned : ℕ) → IsReported o e old new (clauses_report made) returned → returned ≡ 0
    → IsReportedTo o old.out new.out (clauses_report made) returned
of_clauses o e old new (Ok f) returned sent zero = sent.0
of_clauses o e old new (Err g) returned sent zero =
    absurd (is_refused g (cli.sent_whole e old.err new.err (unverified_line g) (unverified_status g) returned sent.0 zero).1)

-- the job of a strategy has one pair of rules and format
pub same_format : (r s : Rules) (a b : Bool) → job.Strategy r a ≡ job.Strategy s b → a ≡ b
same_format r s a b e = cc e

-- a report of a circuit that was made goes to the first stream
pub of_strategy : {O E : Type 0} (o : sinks.Ghosts O) (e : sinks.Ghosts E) (old new : Streams O E) (binary : Bool)
    (found : Result (Question × Strategy) GateStrategyFault) (returned : ℕ)
    → IsReported o e old new (strategy_report binary found) returned → returned ≡ 0
    → (w : Question × Strategy) × (found ≡ Ok w) × Appends (o.written old.out) (o.written new.out) (named_text binary w.0.names w.1.circuit)
of_strategy o e old new binary (Ok w) returned sent zero =
    (w, refl, (cli.sent_whole o old.out new.out (named_text binary w.0.names w.1.circuit) 0 returned sent.0 zero).0)
of_strategy o e old new binary (Err (faults.Check g)) returned sent zero =
    absurd (is_refused g (cli.sent_whole e old.err new.err (unverified_line g) (unverified_status g) returned sent.0 zero).1)
of_strategy o e old new binary (Err faults.NoMemory) returned sent zero =
    let g : Unverified = fault.Proof (proof.Check C5) in
    absurd (is_refused g (cli.sent_whole e old.err new.err (unverified_line g) (unverified_status g) returned sent.0 zero).1)
of_strategy o e old new binary (Err faults.NoCircuit) returned sent zero =
    let four : ◌≡◌ {A = ℕ} 4 0 = (cli.sent_whole e old.err new.err no_circuit.text 4 returned sent.0 zero).1 in absurd (omega (arith, four))

-- with status 0 a strategy writes the text of a circuit by which the winner wins
pub writes_strategy : {O E : Type 0} (o : sinks.Ghosts O) (e : sinks.Ghosts E) (old new : Streams O E) (rules : Rules) (binary : Bool)
    (question trace : SourceCall) (a b : List ℕ) (found : Result (Question × Strategy) GateStrategyFault) (returned : ℕ)
    → IsOfVerdict rules question trace found → question.bytes ≡ Some a → trace.bytes ≡ Some b
    → IsReported o e old new (strategy_report binary found) returned → returned ≡ 0 → WritesStrategy o old.out new.out binary a b
writes_strategy o e old new rules binary question trace a b found returned of is_a is_b sent zero =
    let w = of_strategy o e old new binary found returned sent zero in
    let wins : IfOk found (IsOfWinner a b) = rw is_b at (rw is_a at of.5) in
    (w.0, subst (λ (r : Result (Question × Strategy) GateStrategyFault). IfOk r (IsOfWinner a b)) w.1 wins, w.2)
