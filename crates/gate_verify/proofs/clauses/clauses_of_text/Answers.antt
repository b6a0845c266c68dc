use Rattle.std.proofs.Common.{ap, sym, subst, ◌∙◌, Err, Result}
use Rattle.std.proofs.lemmas.Result.{err_from_is_err_and}
use Rattle.qbf_core.specs.Qbf.{Qbf}
use Rattle.qcir.specs.Reading.{read_gates}
use Rattle.gate_verify.specs.Made.{AreMadeOf}
use Rattle.gate_verify.specs.declared.fault.Unverified.{Unverified}
use Rattle.gate_verify.proofs.Told.{told}
use Rattle.gate_verify.proofs.clauses.clauses_of_text.Goals as goal

pub returns-in_err-question : goal.returns-in_err-question
returns-in_err-question c =
    let p = err_from_is_err_and c.from_residual.result c.from_residual.ensures.1 in
    let is = p.1 ∙ ap (λ (u : Unverified). Err u) p.2 in
    subst (λ (r : Result Qbf Unverified). AreMadeOf (read_gates c.args.text.now) r) (sym is)
    (told c.args.text.now c.in_err-question.field-0.0.0 c.in_err-question.field-0.0.1 c.in_err-question.ensures.reads)
