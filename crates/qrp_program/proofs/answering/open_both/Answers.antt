use Rattle.std.proofs.Common.{inl, inr, ap, ◌∙◌}
use Rattle.std.proofs.lemmas.Result.{err_from_is_err_and}
use Rattle.qrp_program.specs.Program.{start_report}
use Rattle.qrp_program.proofs.answering.open_both.Goals as goal

pub returns-in_err-trace-clause-refused : goal.returns-in_err-trace-clause-refused
returns-in_err-trace-clause-refused g c =
    let why = c.in_err-trace.ensures.refused in
    let p = err_from_is_err_and c.from_residual-in_err-trace.result c.from_residual-in_err-trace.ensures.1 in
    rw p.1 (inr (
      c.in_ok-formula.formula,
      c.in_ok-formula.ensures.file,
      c.in_ok-formula.ensures.failures,
      inl (why.0, why.1, ap (start_report (g.J.Jobs.refusals c.args.job)) (p.2 ∙ why.2)),
    ))
