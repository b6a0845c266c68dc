use Rattle.qrp_rules.proofs.Cited.{◌≡◌, ℕ, get_or, subst, sym, ap, ◌∙◌, ◌+◌, arith, false≢true, Literal}
use Rattle.written_steps.proofs.WrittenSteps.{merge_more}
use Rattle.written_steps.proofs.two_lists.merge_prefix.Goals as goal

pub loop-lit-preserved : goal.loop-lit-preserved
loop-lit-preserved c =
    let x : Literal = c.lit-item.result in
    let here : c.loop-lit.at.to ≡ c.loop-lit.lit-index = c.loop-lit.invariant.count in
    record {
      count = ap (λ (n : ℕ). n + 1) here;
      merge = merge_more c.args.a.now c.args.b.now c.args.to.now c.loop-lit.at.a c.loop-lit.at.b c.loop-lit.at.to c.advance_if_equal.result
          c.advance_if_equal-in-loop-lit.result x (omega (arith, here, c.loop-lit-test.true))
          (subst (λ (n : ℕ). x ≡ get_or c.args.to.now n x) (sym here) c.lit-item.is)
          c.advance_if_equal.ensures c.advance_if_equal-in-loop-lit.ensures
          (λ e f. false≢true (sym c.if-neither_moved.false ∙ c.neither_moved.ensures.1 (e, f)))
          c.loop-lit.invariant.merge;
    }
