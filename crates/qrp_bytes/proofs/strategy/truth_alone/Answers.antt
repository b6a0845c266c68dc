use Rattle.std.proofs.Common.{ap}
use Rattle.qbf_text.specs.Pieces.{Kept}
use Rattle.qrp_bytes.proofs.FoundStrategies.{truth_checked}
use Rattle.qrp_bytes.proofs.strategy.truth_alone.Goals as goal

pub returns-in-Ok-clause-ok : goal.returns-in-Ok-clause-ok
returns-in-Ok-clause-ok c =
    let found = truth_checked c.args.rules c.args.formula.now c.args.trace.now c.in_ok-truth.truth c.in_ok-truth.ensures in
    (found.0, found.1, found.2, ap (λ (k : Kept). k.bytes) c.in-Ok.ensures.made)
