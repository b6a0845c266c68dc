use Rattle.qbf_strategy.specs.Paths.{IsMoved, TakesFirst}
use Rattle.qbf_strategy.proofs.path.Path.take_turns.Given as goal

abbrev pub invariant-loop-place : goal.invariant-loop-place
invariant-loop-place l = record {
  moved : IsMoved l.gates l.gates l.fn.self l.self;
  takes : TakesFirst l.wires l.place l.self.turns.items;
}
