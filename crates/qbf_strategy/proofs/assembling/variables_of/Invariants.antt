use Rattle.std.proofs.Common.{◌≡◌, take}
use Rattle.qbf_core.specs.Blocks.{pairs}
use Rattle.qbf_strategy.specs.Winning.{variables_of}
use Rattle.qbf_strategy.proofs.assembling.variables_of.Given as goal

abbrev pub invariant-loop-place : goal.invariant-loop-place
invariant-loop-place l = record { so_far : l.numbers.items ≡ variables_of l.quantifier (take l.place (pairs l.prefix)) }
