use Rattle.std.proofs.Common.{refl, Err}
use Rattle.std.proofs.lemmas.Result.{err_from_is_err_and}
use Rattle.qrp_check.specs.Checked.{call_of}
use Rattle.gate_verify.specs.declared.fault.Unverified.TheVariants as fault
use Rattle.gate_verify.proofs.Told.{made_of, told}
use Rattle.gate_strategy.specs.Strategies.{text_call}
use Rattle.gate_strategy.proofs.StrategyOfBytes.{refused}
use Rattle.gate_strategy.proofs.strategy.find_gate_strategy.Goals as goal

pub returns-in_err-question-clause-verdict : goal.returns-in_err-question-clause-verdict
returns-in_err-question-clause-verdict g c =
    let text = c.args.text.now in
    let trace = call_of g.B.Source c.args.trace.now c.args.trace.now in
    let p = err_from_is_err_and c.from_residual.result c.from_residual.ensures.1 in
    let found = c.in_err-question.field-0.0 in
    let e = fault.Question found.0 found.1 in
    rw (p.1, p.2)
    (refused c.args.rules (text_call text) trace e
    (made_of (text_call text) text (Err e) refl refl (told text found.0 found.1 c.in_err-question.ensures.reads)) refl refl)
