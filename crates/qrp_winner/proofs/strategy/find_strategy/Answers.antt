use Rattle.trace_check.proofs.Cited.{rules, refl, Err}
use Rattle.qrp_check.specs.Checked.{IsChecked, call_of}
use Rattle.qrp_check.specs.declared.verdict.Fault.TheVariants as fault
use Rattle.qrp_winner.specs.Strategies.{HasReason, HasWinner}
use Rattle.qrp_winner.proofs.StrategyOfBytes.{are_too_long, no_winner, not_too_long, of_winner}
use Rattle.qrp_winner.proofs.strategy.find_strategy.Goals as goal

pub returns-in-Ok-clause-headline : goal.returns-in-Ok-clause-headline
returns-in-Ok-clause-headline g c =
    of_winner (g.A.Source.remaining c.args.formula.now) (g.B.Source.remaining c.args.trace.now) c.in-Ok.read c.strategy_of.result
    c.in-Ok.ensures.exact c.strategy_of.ensures.wins

pub returns-in-Err-clause-verdict : goal.returns-in-Err-clause-verdict
returns-in-Err-clause-verdict g c =
    let refused : IsChecked c.args.rules (call_of g.A.Source c.args.formula.now c.read_formula.new.source)
    (call_of g.B.Source c.args.trace.now c.args.trace.now) (Err (fault.Formula c.in-Err.fault c.in-Err.line)) = search rules in (
      Err (fault.Formula c.in-Err.fault c.in-Err.line),
      refused,
      (λ is. absurd is),
      refl,
      not_too_long (g.A.Source.remaining c.args.formula.now) (g.B.Source.remaining c.args.trace.now) (fault.Formula c.in-Err.fault c.in-Err.line),
      no_winner (g.A.Source.remaining c.args.formula.now) (g.B.Source.remaining c.args.trace.now) (fault.Formula c.in-Err.fault c.in-Err.line),
    )

pub returns-in-Ok-clause-verdict : goal.returns-in-Ok-clause-verdict
returns-in-Ok-clause-verdict g c =
    let reason : HasReason (g.A.Source.remaining c.args.formula.now) (g.B.Source.remaining c.args.trace.now) c.strategy_of.result =
    are_too_long (g.A.Source.remaining c.args.formula.now) (g.B.Source.remaining c.args.trace.now) c.in-Ok.read c.strategy_of.result
    c.in-Ok.ensures.exact c.strategy_of.ensures.long in
    let wins : HasWinner (g.A.Source.remaining c.args.formula.now) (g.B.Source.remaining c.args.trace.now) c.strategy_of.result =
    of_winner (g.A.Source.remaining c.args.formula.now) (g.B.Source.remaining c.args.trace.now) c.in-Ok.read c.strategy_of.result
    c.in-Ok.ensures.exact c.strategy_of.ensures.wins in
    search rules
