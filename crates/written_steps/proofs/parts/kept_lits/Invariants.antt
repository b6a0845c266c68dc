use Rattle.qrp_rules.proofs.Cited.{take}
use Rattle.written_steps.specs.Parts.{IsPart}
use Rattle.written_steps.proofs.parts.kept_lits.Given as goal

abbrev pub invariant-loop-lit : goal.invariant-loop-lit
invariant-loop-lit l =
    IsPart l.reducible.prefix.now l.reducible.quantifier l.reducible.reach (take l.lit-index l.lits) l.part.items
