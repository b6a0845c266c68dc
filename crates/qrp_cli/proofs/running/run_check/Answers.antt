use Rattle.qrp_cli.proofs.ProgramReport.{prints_verdict}
use Rattle.qrp_cli.proofs.running.run_check.Goals as goal

pub returns-clause-headline : goal.returns-clause-headline
returns-clause-headline g c = λ a b is_a is_b zero.
    let w = c.find_truth-checked.ensures.headline in
    prints_verdict g.O.Sink _ _ c.args.rules _ _ a b w.0 _ w.1 is_a is_b (c.send_checked.ensures c.args.rules w.0 w.2) zero
