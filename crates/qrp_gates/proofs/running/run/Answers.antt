use Rattle.std.proofs.Common.{refl, sym, subst, ◌∙◌, Bool}
use Rattle.qrp_check.specs.Checked.{call_of}
use Rattle.qrp_rules.specs.declared.rules.Rules.{Rules}
use Rattle.qrp_gates.proofs.ProgramReport.{of_clauses, on_out, prints_verdict, same_format, same_rules, writes_clauses, writes_strategy}
use Rattle.qrp_gates.specs.Output.{PrintsVerdict, WritesStrategy, check_report, clauses_report, strategy_report}
use Rattle.qrp_gates.proofs.running.run.Goals as goal

pub returns-in-Clauses-clause-report : goal.returns-in-Clauses-clause-report
returns-in-Clauses-clause-report g c =
    let made = c.read_in_clauses.result in
    rw c.in-Clauses.is (clauses_report made, (made, c.read_in_clauses.ensures, refl), c.send_clauses.ensures)

pub returns-in-Clauses-clause-clauses : goal.returns-in-Clauses-clause-clauses
returns-in-Clauses-clause-clauses g c = λ a is is_a zero.
    let made = c.read_in_clauses.result in
    writes_clauses g.O.Sink _ _ (call_of g.F.Source c.args.sources.now.formula c.read_in_clauses.new.question) a made _ c.read_in_clauses.ensures is_a
    (of_clauses g.O.Sink g.E.Sink _ _ made _ c.send_clauses.ensures zero) zero

pub returns-in-Check-clause-report : goal.returns-in-Check-clause-report
returns-in-Check-clause-report g c =
    let w = c.verify_question-checked.ensures in
    let rules = c.in-Check.rules in
    let checked = c.verify_question-checked.result in
    rw c.in-Check.is (check_report rules checked, (checked, w.checked, w.stops, refl), on_out rules checked _ _ (c.send_checked.ensures rules, refl))

pub returns-in-Check-clause-headline : goal.returns-in-Check-clause-headline
returns-in-Check-clause-headline g c = λ rules a b is is_a is_b zero.
    subst (λ (r : Rules). PrintsVerdict g.O.Sink c.args.streams.now.out c.send_checked.new.out r a b) (same_rules c.in-Check.rules rules (sym c.in-Check.is ∙ is))
    (prints_verdict g.O.Sink _ _ c.in-Check.rules _ _ a b c.verify_question-checked.result _ c.verify_question-checked.ensures.headline is_a is_b
    (c.send_checked.ensures c.in-Check.rules) zero)

pub returns-in-Strategy-clause-report : goal.returns-in-Strategy-clause-report
returns-in-Strategy-clause-report g c =
    let w = c.run_strategy.ensures in
    rw c.in-Strategy.is (strategy_report c.in-Strategy.binary w.0, (w.0, w.1, refl), w.2)

pub returns-in-Strategy-clause-strategy : goal.returns-in-Strategy-clause-strategy
returns-in-Strategy-clause-strategy g c = λ rules binary a b is is_a is_b zero.
    let w = c.run_strategy.ensures in
    subst (λ (f : Bool). WritesStrategy g.O.Sink c.args.streams.now.out c.run_strategy.new.streams.out f a b)
    (same_format c.in-Strategy.rules rules c.in-Strategy.binary binary (sym c.in-Strategy.is ∙ is))
    (writes_strategy g.O.Sink g.E.Sink _ _ c.in-Strategy.rules c.in-Strategy.binary
    (call_of g.F.Source c.args.sources.now.formula c.run_strategy.new.sources.formula)
    (call_of g.T.Source c.args.sources.now.trace c.run_strategy.new.sources.trace) a b w.0 _ w.1
    is_a is_b w.2 zero)
