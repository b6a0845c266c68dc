use Rattle.std.proofs.Common.{refl, sym, subst, ◌∙◌}
use Rattle.qrp_rules.specs.declared.rules.Rules.{Rules}
use Rattle.qrp_cli.proofs.ProgramReport.{on_out, same_rules}
use Rattle.qrp_cli.specs.Output.{PrintsVerdict, check_report, trim_report, trimmed_result, format_report}
use Rattle.qrp_cli.proofs.running.run.Goals as goal

pub returns-in-Check-clause-report : goal.returns-in-Check-clause-report
returns-in-Check-clause-report g c =
    let w = c.run_check.ensures.report in
    let rules = c.in-Check.rules in
    rw c.in-Check.is (check_report rules w.0, (w.0, w.1, w.2, refl), on_out rules w.0 _ _ (w.3, refl))

pub returns-in-Trim-clause-report : goal.returns-in-Trim-clause-report
returns-in-Trim-clause-report g c =
    let w = c.find_trimmed.ensures in
    let rules = c.in-Trim.rules in
    let trimmed = trimmed_result c.find_trimmed.result in
    rw c.in-Trim.is (trim_report rules trimmed, (trimmed, w.trims, w.stops, refl), c.send_proof.ensures rules)

pub returns-in-Check-clause-headline : goal.returns-in-Check-clause-headline
returns-in-Check-clause-headline g c = λ rules a b is is_a is_b zero.
    subst (λ (r : Rules). PrintsVerdict g.O.Sink c.args.streams.now.out c.run_check.new.out r a b) (same_rules c.in-Check.rules rules (sym c.in-Check.is ∙ is))
    (c.run_check.ensures.headline a b is_a is_b zero)
