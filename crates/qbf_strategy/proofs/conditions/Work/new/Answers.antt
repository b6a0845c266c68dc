use Rattle.std.proofs.Common.{false}
use Rattle.aiger.specs.Wires.{constant}
use Rattle.qbf_strategy.proofs.ChainedEntries.{all_same}
use Rattle.qbf_strategy.proofs.conditions.Work.new.Goals as goal

pub returns-clause-unused : goal.returns-clause-unused
returns-clause-unused c = record {
  none = c.new.ensures;
  unbuilt = all_same (constant false) c.args.decisions c.in_ok-unbuilt.field-0.items c.in_ok-unbuilt.ensures;
}
