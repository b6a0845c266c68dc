use Rattle.std.proofs.Common.{List, subst}
use Rattle.aiger.specs.Wires.{Wire}
use Rattle.qbf_strategy.specs.Paths.{IsSet}
use Rattle.qbf_strategy.proofs.AssembledCircuit.{on_ok}
use Rattle.qbf_strategy.proofs.PathValues.{entered}
use Rattle.qbf_strategy.proofs.chosen.enter_anew.Goals as goal

pub returns-clause-entered : goal.returns-clause-entered
returns-clause-entered c =
    on_ok c.set.result
    (λ is. entered _ c.args.entry.now.decision c.args.entry.now.value c.args.work.now.gates c.set.new.gates c.args.work.now.path
    c.set.new.self c.get.result.now c.put_wires.new.room.wires.items c.get.ensures c.in_ok-put_wires.ensures
    (subst (λ (wires : List Wire). IsSet wires c.args.entry.now.value c.args.work.now.gates c.set.new.gates
    c.args.work.now.path c.set.new.self) c.deref-2.ensures.value is))
    c.set.ensures
