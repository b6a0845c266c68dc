use Rattle.std.proofs.Common.{rules, sym, subst, Bool, Result, Err}
use Rattle.qrp_check.specs.Checked.{call_of}
use Rattle.qrp_check.specs.declared.verdict.Fault.{Fault}
use Rattle.gate_verify.specs.Checked.{IsChecked}
use Rattle.gate_verify.specs.declared.fault.Unverified.TheVariants as fault
use Rattle.gate_verify.proofs.HeadlineOfGates.{headline}
use Rattle.gate_verify.proofs.Verdicts.{checked_of, of_check, refused_of}
use Rattle.gate_verify.proofs.verifying.verify_question.Goals as goal

pub returns-in-Ok-clause-checked : goal.returns-in-Ok-clause-checked
returns-in-Ok-clause-checked g c =
    let question = call_of g.A.Source c.args.question.now c.read_in_clauses.new.question in
    let trace = call_of g.B.Source c.args.trace.now c.find_truth_of.new.trace in
    let w = c.in-Ok.ensures in
    subst (λ (r : Result Bool Fault). IsChecked c.args.rules question trace (of_check r)) (sym w.2)
    (checked_of c.args.rules question trace c.in_ok-formula.formula w.0 c.in_ok-formula.ensures w.1.0)

pub returns-in-Ok-clause-headline : goal.returns-in-Ok-clause-headline
returns-in-Ok-clause-headline g c =
    let w = returns-in-Ok-clause-checked g c in
    headline c.args.rules (g.A.Source.remaining c.args.question.now) (g.B.Source.remaining c.args.trace.now) w.read _ w.reads w.verdict

pub returns-clause-checked : goal.returns-clause-checked
returns-clause-checked g c =
    let question = call_of g.A.Source c.args.question.now c.read_in_clauses.new.question in
    let trace = call_of g.B.Source c.args.trace.now c.find_truth_of.new.trace in
    let w = c.in-Err.ensures in
    subst (λ (r : Result Bool Fault). IsChecked c.args.rules question trace (of_check r)) (sym w.2)
    (checked_of c.args.rules question trace c.in_ok-formula.formula w.0 c.in_ok-formula.ensures w.1.0)

pub returns-clause-headline : goal.returns-clause-headline
returns-clause-headline g c =
    let w = returns-clause-checked g c in
    headline c.args.rules (g.A.Source.remaining c.args.question.now) (g.B.Source.remaining c.args.trace.now) w.read _ w.reads w.verdict

pub returns-in_err-formula-clause-headline : goal.returns-in_err-formula-clause-headline
returns-in_err-formula-clause-headline g c =
    let question = call_of g.A.Source c.args.question.now c.read_in_clauses.new.question in
    let trace = call_of g.B.Source c.args.trace.now c.args.trace.now in
    let w : IsChecked c.args.rules question trace c.from_residual.result = search (rules, refused_of) in
    headline c.args.rules (g.A.Source.remaining c.args.question.now) (g.B.Source.remaining c.args.trace.now) w.read _ w.reads w.verdict
