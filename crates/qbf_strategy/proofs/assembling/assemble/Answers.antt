use Rattle.std.proofs.Common.{ap, length}
use Rattle.qbf_strategy.proofs.AssembledCircuit.{none_assembled}
use Rattle.qbf_strategy.proofs.assembling.assemble.Goals as goal

pub loop-place-init : goal.loop-place-init
loop-place-init c = record {
  assembled = none_assembled _ _ _ _ _ c.args.inputs c.in_ok-assembly.assembly c.in_ok-assembly.ensures.unassembled;
  count = ap length c.in_ok-assembly.ensures.unassembled.none;
  first = c.in_ok-assembly.ensures.unassembled.first_is;
}
