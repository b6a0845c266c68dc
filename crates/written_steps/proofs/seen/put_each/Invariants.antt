use Rattle.qrp_rules.proofs.Cited.{take, ◌⊎◌, Literal, ◌∈◌}
use Rattle.written_steps.proofs.Cited.{Has}
use Rattle.written_steps.proofs.seen.put_each.Given as goal

abbrev pub invariant-loop-lit : goal.invariant-loop-lit
invariant-loop-lit l = (m : Literal) → Has l.seen m → Has l.fn.seen m ⊎ (m ∈ take l.lit-index l.lits)
