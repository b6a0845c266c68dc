use Rattle.std.proofs.Common.{◌≡◌, ◌+◌, length}
use Rattle.qbf_core.specs.Blocks.{pairs}
use Rattle.qbf_strategy.specs.Chosen.{AreAssembled}
use Rattle.qbf_strategy.proofs.assembling.assemble.Given as goal

abbrev pub invariant-loop-place : goal.invariant-loop-place
invariant-loop-place l = record {
  assembled : AreAssembled l.task.mine
      (pairs l.task.prefix.now) l.task.kept.now.whole l.task.removed.now.whole l.task.plain l.assembly;
  count : length l.assembly.known.items ≡ l._place;
  first : l.assembly.first ≡ l.inputs + 1;
}
