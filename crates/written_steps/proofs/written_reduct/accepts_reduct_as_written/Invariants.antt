use Rattle.qrp_rules.proofs.Cited.{TakesOut}
use Rattle.written_steps.proofs.Merging.{IsRestSoFar}
use Rattle.written_steps.proofs.written_reduct.accepts_reduct_as_written.Given as goal

abbrev pub invariant-loop-lit : goal.invariant-loop-lit
invariant-loop-lit l = IsRestSoFar (λ m. TakesOut l.reducible m.var) l.from l.to l.lit-index l.in_to
