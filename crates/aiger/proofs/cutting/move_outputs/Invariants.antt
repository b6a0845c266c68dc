use Rattle.std.proofs.Common.{◌≡◌, ◌++◌, drop, map, take}
use Rattle.aiger.specs.Cutting.{moved_output}
use Rattle.aiger.proofs.cutting.move_outputs.Given as goal

abbrev pub invariant-loop-place : goal.invariant-loop-place
invariant-loop-place l = record {
  put : l.outputs ≡ map (moved_output l.kept l.all) (take l.place l.fn.outputs) ++ drop l.place l.fn.outputs;
}
