use Rattle.std.proofs.Common.{take}
use Rattle.std.specs.List.{AllByRecursion}
use Rattle.lists.proofs.ranges.see_all.Given as goal

abbrev pub invariant-loop-item : goal.invariant-loop-item
invariant-loop-item g l = record { seen : AllByRecursion g.T.InRange.range (take l.item-index l.items) }
