use Rattle.std.proofs.lemmas.Result.{IfOk-weaker}
use Rattle.aiger.specs.Trimming.{IsSameCircuit}
use Rattle.gate_strategy.specs.Winning.{IsWon}
use Rattle.qbf_strategy.proofs.SameWins.{same_wins}
use Rattle.gate_strategy.proofs.winning.winners_circuit.Goals as goal

pub returns : goal.returns
returns c = IfOk-weaker c.trimmed.result (λ d. IsSameCircuit c.without_gates.result d) _
    (λ d same q top sound count w.
    same_wins c.args.mine q.blocks (IsWon c.args.mine q) c.without_gates.result d same
    (c.without_gates.ensures.wins q top sound count w))
    c.trimmed.ensures
