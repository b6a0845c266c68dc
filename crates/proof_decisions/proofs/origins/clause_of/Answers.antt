use Rattle.proof_decisions.proofs.FoundOrigins.{clause_found}
use Rattle.proof_decisions.proofs.origins.clause_of.Goals as goal

pub returns-in-Some : goal.returns-in-Some
returns-in-Some c =
    clause_found c.args.formula.now c.args.lits.now c.clause.result.now c.in-Some.clause (rw c.in-Some.is at c.in_ok-clause.ensures.found)
    c.clause.ensures

pub returns-in-None : goal.returns-in-None
returns-in-None c = absurd ((rw c.in-None.is at c.in_ok-clause.ensures.only) c.requires.some.0 c.requires.some.1)
