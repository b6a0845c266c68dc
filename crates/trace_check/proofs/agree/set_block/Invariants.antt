use Rattle.trace_check.proofs.Cited.{take, Passes}
use Rattle.trace_check.proofs.SetsAgree.{under}
use Rattle.trace_check.proofs.agree.set_block.Given as goal

abbrev pub invariant-loop-var : goal.invariant-loop-var
invariant-loop-var l = Passes l.prefix l.highest (under l.quantifier (take l.var-index l.vars)) l.reached
