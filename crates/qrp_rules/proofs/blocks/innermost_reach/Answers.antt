use Rattle.qrp_rules.proofs.Cited.{ℕ, ◌+◌, ◌≤◌, ◌↔◌, List, subst, take, Literal, in_take_more, take_more_in, IsHeldBefore, IsInnermost}
use Rattle.qrp_rules.proofs.Reducing.{after_max, innermost_more}
use Rattle.std.proofs.lemmas.List.{take_all}
use Rattle.qrp_rules.proofs.blocks.innermost_reach.Goals as goal

pub returns : goal.returns
returns c = subst (λ (ls : List Literal). IsInnermost c.args.prefix.now c.args.quantifier c.args.pivot ls c.loop-lit.found)
    (take_all c.loop-lit.lit-index c.args.lits.now c.loop-lit-test.false) c.loop-lit.invariant

pub loop-lit-preserved : goal.loop-lit-preserved
loop-lit-preserved c =
    let i : ℕ = c.loop-lit.lit-index in
    let x : Literal = c.lit-item.result in
    let held : (k : ℕ) → c.reach_if.result ≤ k ↔ IsHeldBefore c.args.prefix.now c.args.quantifier c.args.pivot x.var k =
    subst (λ (v : ℕ). (k : ℕ) → c.reach_if.result ≤ k ↔ IsHeldBefore c.args.prefix.now c.args.quantifier c.args.pivot v k) c.var.ensures
    c.reach_if.ensures in
    innermost_more c.args.prefix.now c.args.quantifier c.args.pivot c.loop-lit.found c.reach_if.result _ (take i c.args.lits.now)
    (take (i + 1) c.args.lits.now) x
    (λ m h. in_take_more c.args.lits.now i x m c.loop-lit-test.true c.lit-item.is h)
    (λ m h. take_more_in c.args.lits.now i x m c.loop-lit-test.true c.lit-item.is h)
    held (after_max c.loop-lit.found c.reach_if.result c.max-found.result c.max-found.ensures) c.loop-lit.invariant
