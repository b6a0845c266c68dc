use Rattle.std.proofs.Common.{◌≡◌, ap, subst, Ok, ◌∙◌}
use Rattle.qbf_gates.specs.Gates.{GateFormula}
use Rattle.qcir.specs.Names.{literal_named}
use Rattle.qcir.specs.Reading.{PartsSoFar, Question, with_output}
use Rattle.qcir.proofs.TextLines.{made}
use Rattle.qcir.proofs.parts.Parts.finish.Goals as goal

pub returns : goal.returns
returns c =
    let kept = c.self.inside in
    let said : literal_named kept.names c.args.negative c.args.output.now ≡ Ok c.in-Some.lit = c.in-Some.ensures.given in
    let sound = rw c.prefix.ensures at c.len.ensures.sound in
    let P : PartsSoFar → Type 0 = λ b. Ok c.new-in-Some.result ≡ with_output b (literal_named b.names c.args.negative c.args.output.now) in
    let named : GateFormula → Question = λ f. record { names = kept.names; formula = f } in
    subst P c.self.view_is
    (rw said (ap Ok (c.new-in-Some.ensures ∙ (ap named c.new.ensures ∙ made kept.names kept.gates.blocks kept.gates.gates c.in-Some.lit sound))))
