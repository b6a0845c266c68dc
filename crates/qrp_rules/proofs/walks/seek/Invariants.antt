use Rattle.qrp_rules.proofs.Cited.{length}
use Rattle.qrp_rules.specs.Walks.{IsRestFrom}
use Rattle.qrp_rules.proofs.walks.seek.Given as goal

abbrev pub invariant-loop-first : goal.invariant-loop-first
invariant-loop-first l = IsRestFrom l.lits l.var l.rest

abbrev pub decreases-loop-first : goal.decreases-loop-first
decreases-loop-first l = length l.rest
