use Rattle.std.proofs.Common.{ap, ◌∙◌}
use Rattle.qbf_gates.specs.Gates.{GateFormula}
use Rattle.qbf_text.proofs.SentParts.{part_fails, part_then}
use Rattle.qcir.proofs.Spelled.{reads_back}
use Rattle.qcir.proofs.WrittenParts.{text_of}
use Rattle.qcir.proofs.writing.write_question.Goals as goal

pub returns-in_err-put-clause-put : goal.returns-in_err-put-clause-put
returns-in_err-put-clause-put g c =
    let blocks = c.prefix.ensures ∙ (c.gates-gates.ensures.blocks ∙ ap (λ (f : GateFormula). f.blocks) c.formula.ensures) in
    let gates = c.gates-gates.ensures.gates ∙ ap (λ (f : GateFormula). f.gates) c.formula.ensures in
    let output = c.output.ensures ∙ ap (λ (f : GateFormula). f.output) c.formula-2.ensures in
    rw (text_of c.args.question.now _ _ _ _ c.all_names-names.ensures blocks gates output)
    (part_fails _ _ c.from_residual.ensures.1 c.in_err-put.ensures)

pub returns-in_err-put-clause-reads_back : goal.returns-in_err-put-clause-reads_back
returns-in_err-put-clause-reads_back g c = λ bytes is. reads_back bytes c.args.question.now is

pub returns-clause-put : goal.returns-clause-put
returns-clause-put g c =
    let blocks = c.prefix.ensures ∙ (c.gates-gates.ensures.blocks ∙ ap (λ (f : GateFormula). f.blocks) c.formula.ensures) in
    let gates = c.gates-gates.ensures.gates ∙ ap (λ (f : GateFormula). f.gates) c.formula.ensures in
    let output = c.output.ensures ∙ ap (λ (f : GateFormula). f.output) c.formula-2.ensures in
    rw (text_of c.args.question.now _ _ _ _ c.all_names-names.ensures blocks gates output) (part_then c.in_ok-put.ensures c.put_gates.ensures)

pub returns-clause-reads_back : goal.returns-clause-reads_back
returns-clause-reads_back g c = λ bytes is. reads_back bytes c.args.question.now is
