use Rattle.std.proofs.Common.{take}
use Rattle.qbf_core.specs.Literal.{Literal, negated}
use Rattle.qbf_core.specs.Members.{◌∈◌}
use Rattle.written_steps.specs.Seen.{Has}
use Rattle.proof_decisions.proofs.origins.find_clash.Given as goal

abbrev pub invariant-loop-lit : goal.invariant-loop-lit
invariant-loop-lit l = (m : Literal) → m ∈ take l.lit-index l.lits → Has l.seen (negated m) → ⊥
