use Rattle.qrp_rules.proofs.Cited.{take, IsInnermost}
use Rattle.qrp_rules.proofs.blocks.innermost_reach.Given as goal

abbrev pub invariant-loop-lit : goal.invariant-loop-lit
invariant-loop-lit l = IsInnermost l.prefix l.quantifier l.pivot (take l.lit-index l.lits) l.found
