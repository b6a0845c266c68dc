use Rattle.qrp_rules.proofs.Cited.{arith, bound_each, common_steps}
use Rattle.qrp_rules.proofs.ReductsByMembers.{not_clean}
use Rattle.written_steps.proofs.AcceptedClauses.{same_found, same_none}
use Rattle.written_steps.proofs.clause_index.InitialClauses.find_clause.Goals as goal

pub returns-in-Ok-clause-found : goal.returns-in-Ok-clause-found
returns-in-Ok-clause-found c =
    same_found c.args.formula.now c.in-Ok.set c.args.lits.now c.in-Ok.ensures.members c.reduced_clause.result
    (rw c.as_slice.ensures.value at c.reduced_clause.ensures.found)

pub returns-in-Ok-clause-only : goal.returns-in-Ok-clause-only
returns-in-Ok-clause-only c =
    same_none c.args.formula.now c.in-Ok.set c.args.lits.now c.in-Ok.ensures.members c.reduced_clause.result
    (rw c.as_slice.ensures.value at c.reduced_clause.ensures.only)

pub returns-in-Err-E1-clause-only : goal.returns-in-Err-E1-clause-only
returns-in-Err-E1-clause-only c = grind (arith, common_steps, not_clean)

pub returns-in-Err-E2-clause-only : goal.returns-in-Err-E2-clause-only
returns-in-Err-E2-clause-only c = grind (arith, common_steps, bound_each)
