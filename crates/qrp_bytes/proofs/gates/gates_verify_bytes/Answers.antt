use Rattle.qrp_bytes.proofs.GatesReturned.{gates_headline}
use Rattle.qrp_bytes.proofs.gates.gates_verify_bytes.Goals as goal

pub returns-clause-headline : goal.returns-clause-headline
returns-clause-headline c =
    let outcome = c.gates_truth-outcome in
    rw c.encode_checked.ensures.0
    (gates_headline c.args.rules c.args.formula.now c.args.trace.now outcome.result outcome.ensures.headline outcome.ensures.checked)
