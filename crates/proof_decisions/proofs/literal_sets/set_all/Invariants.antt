use Rattle.std.proofs.Common.{take}
use Rattle.proof_decisions.specs.Removing.{HasJust}
use Rattle.proof_decisions.proofs.literal_sets.set_all.Given as goal

abbrev pub invariant-loop-lit : goal.invariant-loop-lit
invariant-loop-lit l = HasJust (take l.lit-index l.lits) l.seen
