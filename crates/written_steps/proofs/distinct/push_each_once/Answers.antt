use Rattle.qrp_rules.proofs.Cited.{ℕ, ◌∙◌, inl, inr, sym, subst, Literal, ◌∈◌, in_take_all, in_take_more, take_more_in, take_within}
use Rattle.written_steps.proofs.distinct.push_each_once.Goals as goal

pub loop-lit-preserved : goal.loop-lit-preserved
loop-lit-preserved c =
    let i : ℕ = c.loop-lit.lit-index in
    let x : Literal = c.lit-item.result in
    let put = c.in_ok-push_new.ensures.seen c.loop-lit.invariant.seen in
    record {
      whole = c.push_new.ensures.whole ∙ c.loop-lit.invariant.whole;
      within = λ m h. take_more_in c.args.lits.now i x m c.loop-lit-test.true c.lit-item.is (elim (c.push_new.ensures.within m h) [
        | inl k ↦ inl (c.loop-lit.invariant.within m k)
        | inr e ↦ inr e
      ]);
      each = λ m h. elim (in_take_more c.args.lits.now i x m c.loop-lit-test.true c.lit-item.is h) [
        | inl k ↦ c.in_ok-push_new.ensures.kept m (c.loop-lit.invariant.each m k)
        | inr e ↦ subst (λ (z : Literal). z ∈ c.push_new.new.lists.unfinished) (sym e) put.0
      ];
      seen = put.1;
    }

pub returns-clause-members : goal.returns-clause-members
returns-clause-members c = (
  (λ m h. take_within c.args.lits.now c.loop-lit.lit-index m (c.loop-lit.invariant.within m h)),
  (λ m h. c.loop-lit.invariant.each m (in_take_all c.args.lits.now c.loop-lit.lit-index m c.loop-lit-test.false h)),
)
