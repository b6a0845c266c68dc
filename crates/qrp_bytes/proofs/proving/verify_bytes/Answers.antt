use Rattle.std.proofs.Common.{rules, Some}
use Rattle.qrp_check.proofs.HeadlineOfVerdict.{headline}
use Rattle.qrp_bytes.proofs.HeadlineOfStruct.{headline_encoded}
use Rattle.qrp_bytes.proofs.proving.verify_bytes.Goals as goal

pub returns-clause-verdict : goal.returns-clause-verdict
returns-clause-verdict c = search rules

pub returns-clause-headline : goal.returns-clause-headline
unfolding returns-clause-verdict
returns-clause-headline c =
    let w = returns-clause-verdict c in
    let v = c.lent_truth-outcome.ensures in
    let shown = headline c.args.rules (Some c.args.formula.now) (Some c.args.trace.now) v.0 v.1.verdict in
    rw w.is.0 (headline_encoded c.args.rules c.args.formula.now c.args.trace.now v.0 shown w.works.0 w.works.1)
