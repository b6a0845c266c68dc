use Rattle.qrp_rules.proofs.Cited.{rules, ◌≡◌, ◌<◌, ◌≤◌, ℕ, Bool, sym, ap, ◌∙◌, inl, inr, arith, IsTrue, Literal}
use Rattle.qrp_rules.proofs.Cited.{in_take_all, in_take_more, ◌&&◌}
use Rattle.qrp_rules.proofs.OrderedLists.{ordered_taken}
use Rattle.written_steps.proofs.written_resolvent.surely_ordered_without.Goals as goal

both_hold : (a b : Bool) → IsTrue (a && b) → IsTrue a × IsTrue b
both_hold a b t = search rules

pub loop-lit-preserved : goal.loop-lit-preserved
loop-lit-preserved c =
    let i : ℕ = c.loop-lit.lit-index in
    let x : Literal = c.lit-item.result in
    let var_of : Literal → ℕ = λ z. z.var in
    let is : c.number-number.result ≡ x.var = c.number-number.ensures.value ∙ c.var.ensures in
    let both = both_hold c.loop-lit.fits c.is_later_but-fits.result in
    record {
      ordered = λ t. ordered_taken c.args.lits.now i x c.loop-lit-test.true c.lit-item.is (c.loop-lit.invariant.ordered (both t).0) (λ m h.
          let le : m.var ≤ c.loop-lit.last = c.loop-lit.invariant.below (both t).0 m h in
          let later : c.loop-lit.last < c.number-number.result = (c.is_later_but-fits.ensures.0 (both t).1).0 in
          omega (arith, le, later, is));
      below = λ t m h.
          let later : c.loop-lit.last < c.number-number.result = (c.is_later_but-fits.ensures.0 (both t).1).0 in
          elim (in_take_more c.args.lits.now i x m c.loop-lit-test.true c.lit-item.is h) [
            | inl k ↦ (let le : m.var ≤ c.loop-lit.last = c.loop-lit.invariant.below (both t).0 m k in omega (arith, le, later))
            | inr e ↦ (let same : m.var ≡ x.var = ap var_of e in omega (arith, same, is))
          ];
      apart = λ t m h same.
          elim (in_take_more c.args.lits.now i x m c.loop-lit-test.true c.lit-item.is h) [
            | inl k ↦ c.loop-lit.invariant.apart (both t).0 m k same
            | inr e ↦ (c.is_later_but-fits.ensures.0 (both t).1).1 (is ∙ sym (ap var_of e) ∙ same ∙ sym c.number.ensures.value)
          ];
    }

pub returns-clause-apart : goal.returns-clause-apart
returns-clause-apart c = λ t m h. c.loop-lit.invariant.apart t m (in_take_all c.args.lits.now c.loop-lit.lit-index m (omega arith) h)
