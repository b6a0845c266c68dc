use Rattle.std.proofs.Common.{refl}
use Rattle.qrp_bytes.proofs.GatesReturned.{strategy_lent}
use Rattle.qrp_bytes.proofs.gates.gates_strategy.Goals as goal

pub returns : goal.returns
returns c =
    rw (← c.new-trace_source.ensures.made)
    (strategy_lent c.args.rules c.args.formula.now _ _ c.find_gate_strategy.result c.find_gate_strategy.ensures.verdict refl refl refl)
