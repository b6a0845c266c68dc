use Rattle.qbf_text.proofs.SentParts.{sent_fails, sent_part}
use Rattle.std.specs.Prelude.{codes}
use Rattle.aiger.proofs.WrittenLines.{symbols_next}
use Rattle.aiger.proofs.symbols.put_inputs.Goals as goal

pub returns-in_err-put_input : goal.returns-in_err-put_input
returns-in_err-put_input g c =
    let next = symbols_next (codes "i") (g.N.Naming.name c.args.names.now) (c.args.inputs.now) c.loop-i.i _ c.number_at.ensures in
    sent_fails _ _ c.loop-i.invariant.sent next c.from_residual.ensures.1 c.in_err-put_input.ensures

pub loop-i-preserved : goal.loop-i-preserved
loop-i-preserved g c =
    let next = symbols_next (codes "i") (g.N.Naming.name c.args.names.now) (c.args.inputs.now) c.loop-i.i _ c.number_at.ensures in
    record { sent = sent_part _ c.loop-i.invariant.sent next c.in_ok-put_input.ensures }
