use Rattle.qrp_rules.proofs.Cited.{◌∙◌}
use Rattle.proof_decisions.proofs.RemovedLiterals.{removes_antecedent}
use Rattle.proof_decisions.proofs.removing.remove_antecedent.Goals as goal

pub returns-clause-removes : goal.returns-clause-removes
returns-clause-removes g c =
    removes_antecedent c.args.seen.now c.remove_others.new.seen c.args.removed.now.unfinished c.remove_others.new.removed.unfinished
    c.args.antecedent.lits.now g.S.Side.side c.args.antecedent.prefix.now c.reducible_in.result c.args.antecedent.pivot c.remove_others.result
    (c.reducible_in.ensures g.S.Side.side (c.REDUCED.ensures ∙ g.met.S.Side.reduces)) c.remove_others.ensures.removes
