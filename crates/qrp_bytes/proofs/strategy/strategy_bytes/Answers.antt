use Rattle.std.proofs.Common.{Ok}
use Rattle.qrp_bytes.proofs.FoundStrategies.{strategy_found, truth_alone}
use Rattle.qrp_bytes.proofs.strategy.strategy_bytes.Goals as goal

pub returns-in-Ok-text_of-clause-ok : goal.returns-in-Ok-text_of-clause-ok
returns-in-Ok-text_of-clause-ok c =
    let ensures = c.in-Ok.ensures in
    let found = strategy_found c.args.wanted.rules c.args.formula.now c.args.trace.now c.in-Ok.strategy ensures.follows ensures.wins in
    (found.0, Ok c.in-Ok.strategy, found.1, found.2, c.in-Ok-text_of.ensures)

pub returns-clause-ok : goal.returns-clause-ok
returns-clause-ok c = truth_alone c.args.wanted.rules c.args.formula.now c.args.trace.now c.args.wanted.binary c.truth_alone.result
    (rw c.in-Err-NoCircuit.field-0-is at c.in-Err-NoCircuit.ensures.follows)
    (rw c.in-Err-NoCircuit.field-0-is at c.in-Err-NoCircuit.ensures.reason) c.truth_alone.ensures.ok
