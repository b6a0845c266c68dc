use Rattle.qrp_rules.proofs.Cited.{arith, refl, sym, inl, inr, List, ◌⊎◌, ◌∙◌, false≢true, Literal, ◌∈◌, IsTautology, in_take_all, got_in}
use Rattle.qrp_rules.proofs.ReductsByMembers.{each_got}
use Rattle.qrp_rules.proofs.initial.initial_cube_fault.Goals as goal

pub returns-then-not-has_clash : goal.returns-then-not-has_clash
returns-then-not-has_clash c =
    inl (
      (λ all. elim (all c.clause-clause.result.now (got_in _ c.loop-i.i _ c.clause-clause.ensures)) [
        | inl t ↦ false≢true (sym c.if-not-has_clash.true ∙ c.has_clash.ensures.1 t)
        | inr w ↦ false≢true (sym c.if-has_common_literal.false ∙ c.has_common_literal.ensures.1 w)
      ]),
      refl,
    )

pub loop-i-preserved : goal.loop-i-preserved
loop-i-preserved c = each_got (λ (z : List Literal). IsTautology z ⊎ ((m : Literal) × (m ∈ z) × (m ∈ c.args.set.now))) _ c.loop-i.i
    c.clause-clause.result.now c.clause-clause.ensures (inl (c.has_clash.ensures.0 c.if-not-has_clash.false)) c.loop-i.invariant

pub loop-i-preserved-then-has_common_literal : goal.loop-i-preserved-then-has_common_literal
loop-i-preserved-then-has_common_literal c =
    each_got (λ (z : List Literal). IsTautology z ⊎ ((m : Literal) × (m ∈ z) × (m ∈ c.args.set.now))) _ c.loop-i.i
    c.clause-clause.result.now c.clause-clause.ensures (inr (c.has_common_literal.ensures.0 c.if-has_common_literal.true)) c.loop-i.invariant

pub returns : goal.returns
returns c = ((λ k h. c.loop-i.invariant k (in_take_all c.args.formula.now.clauses c.loop-i.i k (omega arith) h)), tt)
