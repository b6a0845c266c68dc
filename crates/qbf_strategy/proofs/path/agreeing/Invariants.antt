use Rattle.std.proofs.Common.{◌≤◌, length, take}
use Rattle.qbf_strategy.specs.Paths.{TakesFirst}
use Rattle.qbf_strategy.proofs.path.agreeing.Given as goal

abbrev pub invariant-loop-place : goal.invariant-loop-place
invariant-loop-place l = record {
  few : l.place ≤ length l.wires;
  takes : TakesFirst l.wires l.place (take l.place l.turns);
}
