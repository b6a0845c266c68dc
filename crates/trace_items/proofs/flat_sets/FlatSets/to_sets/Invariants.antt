use Rattle.std.specs.Prelude.{◌≡◌, take}
use Rattle.trace_items.proofs.flat_sets.FlatSets.to_sets.Given as goal

abbrev pub invariant-loop-place : goal.invariant-loop-place
invariant-loop-place l = l.sets.items ≡ take l.place l.self
