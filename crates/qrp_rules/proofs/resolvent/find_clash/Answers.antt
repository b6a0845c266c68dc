use Rattle.qrp_rules.proofs.Cited.{◌+◌, ℕ, take, drop, sym, ap, subst, rules, true≢false, Literal, negated, ◌∈◌, IsOnlyClash}
use Rattle.qrp_rules.proofs.Cursors.{Reaches, HasVar, reach_more, reach_in}
use Rattle.qrp_rules.proofs.Clashing.{IsClashSoFar, clash_same, clash_first, clash_second, clash_none}
use Rattle.qrp_rules.proofs.resolvent.find_clash.Goals.{then-opposite+in-None, else-opposite}
use Rattle.qrp_rules.proofs.resolvent.find_clash.Goals as goal

pub returns-in-Some : goal.returns-in-Some
returns-in-Some c =
    let var_of : Literal → ℕ = λ z. z.var in
    let k : negated c.lit-item.result ∈ c.loop-lit.rest.now = search rules in
    clash_second c.args.a.now c.args.b.now c.loop-lit.lit-index _ c.lit-item.result c.requires.a c.loop-lit-test.true c.lit-item.is
    (c.loop-lit.invariant.reach.within _ k)
    (subst (λ o. IsClashSoFar (take c.loop-lit.lit-index c.args.a.now) c.args.b.now o) c.in-Some.is c.loop-lit.invariant.clash)

pub loop-lit-preserved : goal.loop-lit-preserved
loop-lit-preserved c =
    let i : ℕ = c.loop-lit.lit-index in
    let x : Literal = c.lit-item.result in
    let var_of : Literal → ℕ = λ z. z.var in
    let reach' : Reaches c.args.b.now c.seek_literal-opposite.result.0.now (HasVar (drop (i + 1) c.args.a.now)) =
    reach_more c.args.b.now c.loop-lit.rest.now _ c.args.a.now i (c.negated.result.var) x c.requires.a c.loop-lit-test.true
    c.lit-item.is c.loop-lit.invariant.reach c.seek_literal-opposite.ensures.rest.ordered c.seek_literal-opposite.ensures.rest.within
    (ap var_of c.negated.ensures) c.seek_literal-opposite.ensures.rest.kept in
    elim c.if-opposite.branch [
      | then-opposite+in-None w ↦
          let k : negated x ∈ c.loop-lit.rest.now = subst (λ (z : Literal). z ∈ c.loop-lit.rest.now) c.negated.ensures
          (c.seek_literal-opposite.ensures.found.0 w.if-opposite.true) in
          record {
            reach = reach';
            clash = subst (λ o. IsClashSoFar (take (i + 1) c.args.a.now) c.args.b.now o) (sym w.found-is)
                (subst (λ v. IsOnlyClash (take (i + 1) c.args.a.now) c.args.b.now v) (sym w.var.ensures)
                (clash_first c.args.a.now c.args.b.now i x c.loop-lit-test.true c.lit-item.is (c.loop-lit.invariant.reach.within _ k)
                (subst (λ o. IsClashSoFar (take i c.args.a.now) c.args.b.now o) w.in-None.is c.loop-lit.invariant.clash)));
          }
      | else-opposite w ↦ search (rules, reach_in, true≢false, clash_same)
    ]

pub returns-in-None-found : goal.returns-in-None-found
returns-in-None-found c = clash_none c.args.a.now c.args.b.now c.loop-lit.lit-index c.loop-lit-test.false
    (subst (λ o. IsClashSoFar (take c.loop-lit.lit-index c.args.a.now) c.args.b.now o) c.in-None-found.is c.loop-lit.invariant.clash)
