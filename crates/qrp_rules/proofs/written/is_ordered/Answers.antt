use Rattle.qrp_rules.proofs.Cited.{◌≡◌, ◌<◌, ◌≤◌, ℕ, refl, sym, ap, ◌∙◌, inl, inr, arith, false≢true, Literal, in_take_more, take_more_in}
use Rattle.qrp_rules.proofs.OrderedLists.{ordered_taken}
use Rattle.qrp_rules.proofs.Clashing.{taken_below}
use Rattle.qrp_rules.proofs.written.is_ordered.Goals as goal

pub returns-then-number-last : goal.returns-then-number-last
returns-then-number-last c = (
  λ t. absurd (false≢true t),
  λ ordered.
      let x : Literal = c.lit-item.result in
      let late : c.number-number.result ≤ c.loop-lit.last = c.if-number-last.true in
      let is : c.number-number.result ≡ x.var = c.number-number.ensures.value ∙ c.var.ensures in
      absurd (elim c.loop-lit.invariant.reached [
        | inl none ↦ omega (arith, late, none, c.number-number.ensures.low)
        | inr w ↦
            let less : w.0.var < x.var =
            taken_below c.args.lits.now c.loop-lit.lit-index x w.0 ordered c.loop-lit-test.true c.lit-item.is w.1 in
            let same : w.0.var ≡ c.loop-lit.last = w.2 in
            omega (arith, late, is, less, same)
      ]),
)

pub loop-lit-preserved : goal.loop-lit-preserved
loop-lit-preserved c =
    let i : ℕ = c.loop-lit.lit-index in
    let x : Literal = c.lit-item.result in
    let is : c.number-number.result ≡ x.var = c.number-number.ensures.value ∙ c.var.ensures in
    let above : c.loop-lit.last < c.number-number.result = c.if-number-last.false in
    record {
      ordered = ordered_taken c.args.lits.now i x c.loop-lit-test.true c.lit-item.is c.loop-lit.invariant.ordered
          (λ m h. let le : m.var ≤ c.loop-lit.last = c.loop-lit.invariant.below m h in omega (arith, le, above, is));
      below = λ m h. elim (in_take_more c.args.lits.now i x m c.loop-lit-test.true c.lit-item.is h) [
        | inl k ↦ (let le : m.var ≤ c.loop-lit.last = c.loop-lit.invariant.below m k in omega (arith, le, above))
        | inr e ↦ (let var_of : Literal → ℕ = λ z. z.var in let s : m.var ≡ x.var = ap var_of e in omega (arith, s, is))
      ];
      reached = inr (x, take_more_in c.args.lits.now i x x c.loop-lit-test.true c.lit-item.is (inr refl), sym is);
    }
