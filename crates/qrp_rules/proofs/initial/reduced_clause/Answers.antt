use Rattle.qrp_rules.proofs.Cited.{arith, ◌∙◌, sym, List, Literal, Clauses, IsClean, IsReduct, false≢true, got_in, in_take_all}
use Rattle.qrp_rules.proofs.ReductsByMembers.{each_got}
use Rattle.qrp_rules.proofs.initial.reduced_clause.Goals as goal

pub loop-position-preserved : goal.loop-position-preserved
loop-position-preserved c = each_got (λ (z : List Literal). (IsClean z × IsReduct Clauses c.args.formula.now.blocks z c.args.set.now) → ⊥) _ c.loop-position.position
    c.clause.result.now c.clause.ensures
    (λ h. false≢true (sym c.if-branch.false ∙ (rw c.prefix.ensures.value at c.in_ok-has_reduct.ensures).1 h)) c.loop-position.invariant

pub returns-clause-only : goal.returns-clause-only
returns-clause-only c =
    λ p at. c.loop-position.invariant at.clause
    (in_take_all c.args.formula.now.clauses c.loop-position.position at.clause (omega arith) (got_in c.args.formula.now.clauses p at.clause at.here))
    (at.clean, at.reduct)
