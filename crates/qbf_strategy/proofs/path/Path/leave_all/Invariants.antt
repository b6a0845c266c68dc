use Rattle.std.proofs.Common.{◌≡◌, length, take}
use Rattle.qbf_strategy.specs.Paths.{IsMoved}
use Rattle.qbf_strategy.proofs.path.Path.leave_all.Given as goal

abbrev pub invariant-loop-self : goal.invariant-loop-self
invariant-loop-self l = record {
  moved : IsMoved l.fn.gates l.gates l.fn.self l.self;
  kept : take l.keep l.self.turns.items ≡ take l.keep l.fn.self.turns.items;
}

abbrev pub decreases-loop-self : goal.decreases-loop-self
decreases-loop-self l = length l.self.turns.items
