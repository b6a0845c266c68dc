use Rattle.qrp_rules.proofs.Cited.{◌≡◌, ℕ, get_or, subst, sym, ap, inl, inr, ◌∙◌, rules, Literal, in_take_all, in_take_more}
use Rattle.written_steps.proofs.WrittenSteps.{clean_all, clean_with}
use Rattle.written_steps.proofs.seen.stamp_vars.Goals as goal

pub loop-lit-preserved : goal.loop-lit-preserved
loop-lit-preserved c =
    let i : ℕ = c.loop-lit.lit-index in
    let x : Literal = c.lit-item.result in
    let was : get_or c.loop-lit.stamps x.var 0 ≡ c.args.stamp → ⊥ = search rules in
    record {
      clean = clean_with c.args.lits.now i x c.loop-lit-test.true c.lit-item.is
          (λ h. was (c.loop-lit.invariant.stamped _ h)) c.loop-lit.invariant.clean;
      apart = λ m h same. elim (in_take_more c.args.lits.now i x m c.loop-lit-test.true c.lit-item.is h) [
        | inl k ↦ c.loop-lit.invariant.apart m k same
        | inr e ↦ was (subst (λ v. get_or c.loop-lit.stamps v 0 ≡ c.args.stamp)
            (sym same ∙ (let var_of : Literal → ℕ = λ z. z.var in ap var_of e)) c.loop-lit.invariant.of_other)
      ];
      stamped = λ m h. elim (in_take_more c.args.lits.now i x m c.loop-lit-test.true c.lit-item.is h) [
        | inl k ↦ c.stamp_var-in-loop-lit.ensures.kept _ (c.loop-lit.invariant.stamped m k)
        | inr e ↦ subst (λ (z : Literal). get_or c.stamp_var-in-loop-lit.new.stamps z.var 0 ≡ c.args.stamp) (sym e)
            (rw c.var.ensures at c.stamp_var-in-loop-lit.ensures.stamped c.if-not-stamp_var-2.false)
      ];
      of_other = c.stamp_var-in-loop-lit.ensures.kept _ c.loop-lit.invariant.of_other;
      upto = λ h. c.stamp_var-in-loop-lit.ensures.upto (c.loop-lit.invariant.upto h);
    }

pub returns-clause-clean : goal.returns-clause-clean
returns-clause-clean c = λ _. clean_all c.args.lits.now c.loop-lit.lit-index c.loop-lit-test.false c.loop-lit.invariant.clean

pub returns-clause-apart : goal.returns-clause-apart
returns-clause-apart c = λ _ l h. c.loop-lit.invariant.apart l (in_take_all c.args.lits.now c.loop-lit.lit-index l c.loop-lit-test.false h)
