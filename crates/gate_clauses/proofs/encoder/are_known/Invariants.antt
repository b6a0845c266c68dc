use Rattle.std.proofs.Common.{take}
use Rattle.qbf_core.specs.Blocks.{AreBound}
use Rattle.gate_clauses.proofs.encoder.are_known.Given as goal

abbrev pub invariant-loop-lit : goal.invariant-loop-lit
invariant-loop-lit l = record { bound : AreBound l.prefix (take l.lit-index l.lits) }
