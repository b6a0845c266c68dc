use Rattle.std.proofs.Common.{◌∙◌, ap, length, subst}
use Rattle.qbf_text.proofs.SentParts.{part_fails, part_then}
use Rattle.qbf_text.specs.Written.{IsPut}
use Rattle.aiger.specs.Circuits.{Circuit}
use Rattle.aiger.proofs.WrittenLines.{gates_are}
use Rattle.aiger.proofs.ascii.put_unnamed_ascii.Goals as goal

pub returns-in_err-put_beginning : goal.returns-in_err-put_beginning
returns-in_err-put_beginning g c = part_fails _ _ c.from_residual.ensures.1 c.in_err-put_beginning.ensures

pub returns : goal.returns
returns g c =
    part_then c.in_ok-put_beginning.ensures
    (subst (λ t. IsPut g.K.Sink.written g.K.Sink.failures g.K.Sink.failed_last c.put_beginning.new.sink c.put_gates.new.sink t
    c.put_gates.result)
    (gates_are c.args.circuit.now (length c.deref-inputs.result.now) c.deref.result.now
    (ap length (c.deref-inputs.ensures.value ∙ ap (λ (k : Circuit). k.inputs) c.circuit.view_is)) (c.deref.ensures.value
    ∙ ap (λ (k : Circuit). k.gates) c.circuit.view_is))
    c.put_gates.ensures)
