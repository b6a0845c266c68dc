use Rattle.std.proofs.Common.{rules, Err}
use Rattle.std.proofs.lemmas.Result.{err_from_is_err_and}
use Rattle.qrp_check.specs.Checked.{IsChecked, call_of}
use Rattle.qrp_check.specs.declared.verdict.Fault.TheVariants as fault
use Rattle.qrp_check.proofs.HeadlineOfVerdict.{headline}
use Rattle.qrp_check.proofs.MarkedTruth.{checked_both}
use Rattle.qrp_check.proofs.verifying.find_truth.Goals as goal

pub returns-in_err-whole-clause-checked : goal.returns-in_err-whole-clause-checked
returns-in_err-whole-clause-checked g c =
    let p = err_from_is_err_and c.from_residual.result c.from_residual.ensures.1 in
    let refused : IsChecked c.args.rules (call_of g.A.Source c.args.formula.now c.read_formula.new.source)
    (call_of g.B.Source c.args.trace.now c.args.trace.now)
    (Err (fault.Formula c.in_err-whole.field-0.0.0 c.in_err-whole.field-0.0.1)) = search rules in
    (Err p.0, (rw p.2 refused, rw p.2 (λ is. absurd is)), p.1)

pub returns-in_err-whole-clause-headline : goal.returns-in_err-whole-clause-headline
returns-in_err-whole-clause-headline g c =
    let w = returns-in_err-whole-clause-checked g c in
    (w.0, headline c.args.rules (g.A.Source.remaining c.args.formula.now) (g.B.Source.remaining c.args.trace.now) w.0 w.1.0.verdict, w.2)

pub returns-clause-checked : goal.returns-clause-checked
returns-clause-checked g c = search (rules, checked_both)

pub returns-clause-headline : goal.returns-clause-headline
returns-clause-headline g c =
    let w = returns-clause-checked g c in
    (w.0, headline c.args.rules (g.A.Source.remaining c.args.formula.now) (g.B.Source.remaining c.args.trace.now) w.0 w.1.0.verdict, w.2)
