use Rattle.std.proofs.Common.{◌≤◌, length}
use Rattle.qbf_strategy.proofs.path.Path.reach.Given as goal

abbrev pub invariant-loop-place : goal.invariant-loop-place
invariant-loop-place l = record {
  from : l.from ≤ l.reached;
  few : l.reached ≤ length l.wires;
}
