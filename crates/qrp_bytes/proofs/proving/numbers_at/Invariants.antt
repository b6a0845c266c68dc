use Rattle.std.proofs.Common.{◌≡◌, take}
use Rattle.trace_items.specs.Derivations.{steps_at}
use Rattle.trace_items.specs.Inferences.{numbers}
use Rattle.qrp_bytes.proofs.proving.numbers_at.Given as goal

abbrev pub invariant-loop-place : goal.invariant-loop-place
invariant-loop-place g l = l.numbers.items ≡ numbers (steps_at (g.T.KeptSteps.steps l.trace) (take l.place-index l.places))
