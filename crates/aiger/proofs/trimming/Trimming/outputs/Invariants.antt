use Rattle.std.proofs.Common.{List, take}
use Rattle.aiger.specs.Circuits.{Gate}
use Rattle.aiger.specs.Trimming.{IsTrimming, OutputsSame}
use Rattle.aiger.proofs.trimming.Trimming.outputs.Given as goal

abbrev pub invariant-loop-output : goal.invariant-loop-output
invariant-loop-output l = record {
  same : (old : List Gate) → IsTrimming l.self.first old l.self.gates.items l.self.wires.items
      → OutputsSame l.self.first old l.self.gates.items (take l.output-index l.outputs) l.renamed.items;
}
