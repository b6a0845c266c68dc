use Rattle.std.proofs.Common.{refl, Err}
use Rattle.std.proofs.lemmas.Result.{err_from_is_err_and}
use Rattle.qrp_check.specs.Checked.{call_of}
use Rattle.gate_strategy.specs.Strategies.{text_call}
use Rattle.gate_strategy.proofs.StrategyOfBytes.{cut, no_strategy, not_cut, of_text, refused}
use Rattle.gate_strategy.proofs.strategy.strategy_for.Goals as goal

pub returns-in_err-formula : goal.returns-in_err-formula
returns-in_err-formula g c = λ text reads.
    let trace = call_of g.B.Source c.args.trace.now c.args.trace.now in
    let p = err_from_is_err_and c.from_residual.result c.from_residual.ensures.1 in
    let fault = c.in_err-formula.field-0.0 in
    rw (p.1, p.2)
    (refused c.args.rules (text_call text) trace fault (of_text text c.args.question reads (Err fault) c.in_err-formula.ensures) refl refl)

pub returns-in_err-by_clauses : goal.returns-in_err-by_clauses
returns-in_err-by_clauses g c = λ text reads.
    let trace = call_of g.B.Source c.args.trace.now c.strategy_of.new.trace in
    let p = err_from_is_err_and c.from_residual-in_err-by_clauses.result c.from_residual-in_err-by_clauses.ensures.1 in
    rw (p.1, p.2)
    (no_strategy c.args.rules trace c.args.question c.in_ok-formula.formula c.in_ok-formula.ensures text reads c.in_err-by_clauses.field-0.0
    c.in_err-by_clauses.ensures)

pub returns-in_err-strategy : goal.returns-in_err-strategy
returns-in_err-strategy g c = λ text reads.
    let trace = call_of g.B.Source c.args.trace.now c.strategy_of.new.trace in
    let p = err_from_is_err_and c.from_residual-in_err-strategy.result c.from_residual-in_err-strategy.ensures.1 in
    rw (p.1, p.2)
    (not_cut c.args.rules trace c.args.question c.in_ok-formula.formula c.in_ok-formula.ensures text reads c.in_ok-by_clauses.by_clauses
    c.in_ok-by_clauses.ensures)

pub returns : goal.returns
returns g c = λ text reads.
    let trace = call_of g.B.Source c.args.trace.now c.strategy_of.new.trace in
    cut c.args.rules trace c.args.question c.in_ok-formula.formula c.in_ok-formula.ensures text reads c.in_ok-by_clauses.by_clauses
    c.in_ok-strategy.strategy c.in_ok-by_clauses.ensures c.in_ok-strategy.ensures.truth c.in_ok-strategy.ensures.wins
