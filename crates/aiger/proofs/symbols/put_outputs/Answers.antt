use Rattle.qbf_text.proofs.SentParts.{sent_fails, sent_part}
use Rattle.std.proofs.Common.{map}
use Rattle.std.specs.Prelude.{codes}
use Rattle.aiger.proofs.WrittenLines.{symbols_next}
use Rattle.aiger.proofs.symbols.put_outputs.Goals as goal

pub returns-in_err-put_output : goal.returns-in_err-put_output
returns-in_err-put_output g c =
    let next = symbols_next (codes "o") (g.N.Naming.name c.args.names.now) (map (λ o. o.0) c.args.outputs.now) c.loop-i.i _ c.output_number.ensures in
    sent_fails _ _ c.loop-i.invariant.sent next c.from_residual.ensures.1 c.in_err-put_output.ensures

pub loop-i-preserved : goal.loop-i-preserved
loop-i-preserved g c =
    let next = symbols_next (codes "o") (g.N.Naming.name c.args.names.now) (map (λ o. o.0) c.args.outputs.now) c.loop-i.i _ c.output_number.ensures in
    record { sent = sent_part _ c.loop-i.invariant.sent next c.in_ok-put_output.ensures }
