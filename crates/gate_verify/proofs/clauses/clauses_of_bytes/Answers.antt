use Rattle.std.proofs.Common.{◌≡◌, ℕ, List, ap, sym, subst, ◌∙◌, Ok, Err, Result}
use Rattle.std.proofs.lemmas.Result.{err_from_is_err_and}
use Rattle.qbf_core.specs.Qbf.{Qbf}
use Rattle.qcir.specs.Outcomes.{Tells}
use Rattle.qcir.specs.Reading.{Question, read_gates}
use Rattle.qcir.specs.declared.fault.QuestionFault.{QuestionFault}
use Rattle.gate_verify.specs.Made.{AreMadeOf}
use Rattle.gate_verify.specs.declared.fault.Unverified.{Unverified}
use Rattle.gate_verify.proofs.Told.{told}
use Rattle.gate_verify.proofs.clauses.clauses_of_bytes.Goals as goal

pub returns-in_err-read_question : goal.returns-in_err-read_question
returns-in_err-read_question c =
    let p = err_from_is_err_and c.from_residual.result c.from_residual.ensures.1 in
    let is = p.1 ∙ ap (λ (u : Unverified). Err u) p.2 in
    subst (λ (r : Result Qbf Unverified). AreMadeOf (read_gates c.args.text.items) r) (sym is)
    (told c.args.text.items c.in_err-read_question.field-0.0.0 c.in_err-read_question.field-0.0.1
    (subst (λ (b : List ℕ). Tells (read_gates b) (Err c.in_err-read_question.field-0.0)) c.deref.ensures.value c.in_err-read_question.ensures.reads))

pub returns : goal.returns
returns c =
    let q = c.in_ok-read_question.field-0 in
    let reads : read_gates c.args.text.items ≡ Ok q =
    subst (λ (b : List ℕ). read_gates b ≡ Ok q) c.deref.ensures.value c.in_ok-read_question.ensures.reads in
    subst (λ (r : Result Question (QuestionFault × ℕ)). AreMadeOf r c.formula_clauses.result) (sym reads)
    (c.formula_clauses.ensures q (sym c.into_formula-formula.ensures))
