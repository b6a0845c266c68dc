use Rattle.qrp_rules.proofs.Cited.{◌∙◌}
use Rattle.proof_decisions.proofs.FoundOrigins.{some_clause}
use Rattle.proof_decisions.proofs.origins.initial_of.Goals as goal

pub clause_of-requires-clause-some : goal.clause_of-requires-clause-some
clause_of-requires-clause-some g c =
    some_clause c.args.formula.now c.args.lits.now g.S.Side.side c.REDUCED.result (c.REDUCED.ensures ∙ g.met.S.Side.reduces) c.in-All.is
    c.requires.initial
