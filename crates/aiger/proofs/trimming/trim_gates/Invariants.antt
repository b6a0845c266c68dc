use Rattle.std.proofs.Common.{◌≡◌, ◌+◌, length}
use Rattle.aiger.specs.Circuits.{first_gate}
use Rattle.aiger.specs.Trimming.{IsTrimming}
use Rattle.aiger.proofs.trimming.trim_gates.Given as goal

abbrev pub invariant-loop-place : goal.invariant-loop-place
invariant-loop-place l = record {
  trims : IsTrimming (first_gate l.circuit) l.circuit.gates l.trimming.gates.items l.trimming.wires.items;
  count : length l.trimming.wires.items ≡ first_gate l.circuit + l.place;
  first : l.trimming.first ≡ first_gate l.circuit;
}
