use Rattle.trace_check.proofs.Cited.{rules}
use Rattle.qrp_check.proofs.HeadlineOfVerdict.{headline}
use Rattle.qrp_check.proofs.verifying.verify.Goals as goal

pub returns-in_err-verified-clause-headline : goal.returns-in_err-verified-clause-headline
returns-in_err-verified-clause-headline g c =
    headline c.args.rules (g.A.Source.remaining c.args.formula.now) (g.B.Source.remaining c.args.trace.now) _ (search rules)

pub returns-clause-headline : goal.returns-clause-headline
returns-clause-headline g c =
    headline c.args.rules (g.A.Source.remaining c.args.formula.now) (g.B.Source.remaining c.args.trace.now) _ c.in_ok-verified.ensures.checked.verdict
