use Rattle.std.proofs.Common.{◌≡◌}
use Rattle.qbf_strategy.specs.Conditions.{scene_of}
use Rattle.qbf_strategy.specs.Ordering.{AreOrdered}
use Rattle.qbf_strategy.specs.Paths.{IsChosenInside}
use Rattle.qbf_strategy.proofs.chosen.branched.Given as goal

abbrev pub invariant-loop-number : goal.invariant-loop-number
invariant-loop-number l = record {
  chosen : IsChosenInside (scene_of l.here)
      l.entries.entries.items l.last l.number l.otherwise l.fn.work.gates l.work.gates l.work.path;
  ordered : AreOrdered (scene_of l.here) l.work.ordered;
  conditions : l.work.conditions.items ≡ l.fn.work.conditions.items;
}

abbrev pub decreases-loop-number : goal.decreases-loop-number
decreases-loop-number l = l.number
