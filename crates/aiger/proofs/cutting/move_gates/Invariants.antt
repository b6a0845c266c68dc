use Rattle.std.proofs.Common.{◌≡◌, ◌++◌, drop, map, take}
use Rattle.aiger.specs.Cutting.{moved_gate}
use Rattle.aiger.proofs.cutting.move_gates.Given as goal

abbrev pub invariant-loop-place : goal.invariant-loop-place
invariant-loop-place l = record {
  put : l.gates ≡ map (moved_gate l.kept l.all) (take l.place l.fn.gates) ++ drop l.place l.fn.gates;
}
