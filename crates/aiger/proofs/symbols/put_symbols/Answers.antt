use Rattle.std.proofs.Common.{◌∙◌, ap, refl, subst}
use Rattle.qbf_text.proofs.SentParts.{part_fails, part_then}
use Rattle.qbf_text.specs.Written.{IsPut}
use Rattle.aiger.specs.Circuits.{Circuit}
use Rattle.aiger.proofs.WrittenLines.{table_is}
use Rattle.aiger.proofs.symbols.put_symbols.Goals as goal

pub returns-in_err-put_inputs : goal.returns-in_err-put_inputs
returns-in_err-put_inputs g c =
    subst (λ t. IsPut g.K.Sink.written g.K.Sink.failures g.K.Sink.failed_last c.args.sink.now c.put_inputs.new.sink t c.from_residual.result)
    (table_is (g.N.Naming.name c.args.names.now) c.args.circuit.now c.deref.result.now c.args.circuit.now.outputs
    (c.deref.ensures.value ∙ ap (λ (k : Circuit). k.inputs) c.circuit.view_is) refl)
    (part_fails _ _ c.from_residual.ensures.1 c.in_err-put_inputs.ensures)

pub returns : goal.returns
returns g c =
    subst (λ t. IsPut g.K.Sink.written g.K.Sink.failures g.K.Sink.failed_last c.args.sink.now c.put_outputs.new.sink t c.put_outputs.result)
    (table_is (g.N.Naming.name c.args.names.now) c.args.circuit.now c.deref.result.now c.deref-2.result.now
    (c.deref.ensures.value ∙ ap (λ (k : Circuit). k.inputs) c.circuit.view_is) (c.deref-2.ensures.value ∙ ap (λ (k : Circuit). k.outputs) c.circuit.view_is))
    (part_then c.in_ok-put_inputs.ensures c.put_outputs.ensures)
