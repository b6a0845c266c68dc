use Rattle.qrp_rules.proofs.Cited.{arith, refl, sym, inl, inr, List, ◌⊎◌, ◌∙◌, false≢true, Literal, ◌∈◌, IsTautology, in_take_all, got_in}
use Rattle.qrp_rules.proofs.ReductsByMembers.{each_got}
use Rattle.written_steps.proofs.cube_fault.find_cube_fault.Goals as goal

pub returns-then-not-branch : goal.returns-then-not-branch
returns-then-not-branch c =
    inl (
      (λ all. elim (all c.clause-clause.result.now (got_in _ c.loop-place.place _ c.clause-clause.ensures)) [
        | inl t ↦ false≢true (sym c.if-not-branch.true ∙ c.in_ok-is_tautology.ensures.1 t)
        | inr w ↦ false≢true (sym c.if-has_common_literal.false ∙ c.has_common_literal.ensures.1 w)
      ]),
      refl,
    )

pub loop-place-preserved : goal.loop-place-preserved
loop-place-preserved c = each_got (λ (z : List Literal). IsTautology z ⊎ ((m : Literal) × (m ∈ z) × (m ∈ c.args.set.now))) _ c.loop-place.place
    c.clause-clause.result.now c.clause-clause.ensures (inl (c.in_ok-is_tautology.ensures.0 c.if-not-branch.false)) c.loop-place.invariant

pub loop-place-preserved-then-has_common_literal : goal.loop-place-preserved-then-has_common_literal
loop-place-preserved-then-has_common_literal c =
    each_got (λ (z : List Literal). IsTautology z ⊎ ((m : Literal) × (m ∈ z) × (m ∈ c.args.set.now))) _ c.loop-place.place
    c.clause-clause.result.now c.clause-clause.ensures (inr (c.has_common_literal.ensures.0 c.if-has_common_literal.true)) c.loop-place.invariant

pub returns : goal.returns
returns c = ((λ k h. c.loop-place.invariant k (in_take_all c.args.formula.now.clauses c.loop-place.place k (omega arith) h)), tt)
