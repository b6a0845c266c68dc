use Rattle.std.proofs.Common.{◌<◌, ℕ}
use Rattle.qbf_core.specs.Blocks.{pairs}
use Rattle.qbf_strategy.specs.Assembling.{IsAt}
use Rattle.qbf_strategy.proofs.places.search.Given as goal

abbrev pub invariant-loop-place : goal.invariant-loop-place
invariant-loop-place l = record { none : (i : ℕ) → i < l.place → IsAt (pairs l.prefix) i l.var → ⊥ }
