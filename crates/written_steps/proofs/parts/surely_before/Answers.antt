use Rattle.qrp_rules.proofs.Cited.{None, rules, tests, MatchBool-at_true, cases_from_all, YieldsList-from_slice, Literal, each_within}
use Rattle.qrp_rules.proofs.Cited.{IsHeldBefore}
use Rattle.written_steps.proofs.parts.surely_before.Goals as goal

pub returns : goal.returns
returns c = λ t.
    let Is : Literal → Type 0 = λ l. IsHeldBefore c.args.prefix.now c.args.quantifier None l.var c.args.reach in
    each_within Is c.args.lits.now (MatchBool-at_true _ _ t (cases_from_all _ _ _ Is (λ _. Unit {0}) c.all.ensures.ran
    (YieldsList-from_slice c.args.lits.now cc) (λ x q k. search (rules, tests)) (λ x q k. tt)))
