use Rattle.core_walk.proofs.Cited.{common_steps, Option, arith, RuleFault, IsFaultOf, premise_conditions}
use Rattle.std.proofs.lemmas.Result.{IfOk-weaker}
use Rattle.core_walk.proofs.CoreStep.{not_all_bound, not_clean, set_answer}
use Rattle.core_walk.proofs.step.fault_by_sets.Goals as goal

pub returns-in-Err-E1 : goal.returns-in-Err-E1
returns-in-Err-E1 g c = grind (arith, common_steps, not_clean)

pub returns-in-Err-E2 : goal.returns-in-Err-E2
returns-in-Err-E2 g c =
    not_all_bound c.args.context.rules g.S.Side.side c.args.context.formula.now c.args.premises c.args.lits.now
    (c.in-Err-E2.ensures.clean (cc c.in-Err-E2.field-0-is))
    (rw c.prefix.ensures.value at c.in-Err-E2.ensures.unbound (cc c.in-Err-E2.field-0-is))

pub returns-in-Some : goal.returns-in-Some
returns-in-Some g c = rw c.in-Some.is (IfOk-weaker c.premises_fault.result
    (λ (fault : Option RuleFault). IsFaultOf (premise_conditions c.args.context.rules g.S.Side.side c.args.context.formula.now
    c.in-Some.premises c.normal_form.result.now) fault)
    _
    (λ fault a. set_answer c.args.context.rules g.S.Side.side c.args.context.formula.now c.in-Some.premises c.normal_form.result.now
    c.args.lits.now fault (rw c.normal_form.ensures c.in-Ok.ensures.members)
    (c.in-Ok.ensures.fit.0, rw c.prefix.ensures.value at c.in-Ok.ensures.fit.1) a)
    c.premises_fault.ensures)
