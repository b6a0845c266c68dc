use Rattle.qbf_strategy.proofs.AssembledCircuit.{on_ok}
use Rattle.qbf_strategy.proofs.PathValues.{entered}
use Rattle.qbf_strategy.proofs.chosen.enter.Goals as goal

pub returns-in-Some-clause-entered : goal.returns-in-Some-clause-entered
returns-in-Some-clause-entered c =
    on_ok c.set.result
    (λ is. entered _ c.args.entry.now.decision c.args.entry.now.value c.args.work.now.gates c.set.new.gates c.args.work.now.path
    c.set.new.self c.get-kept.result.now c.in-Some.wires.now c.get-kept.ensures
    (c.in-Some.ensures _ c.requires.ordered c.get-kept.result.now c.get-kept.ensures) is)
    c.set.ensures
