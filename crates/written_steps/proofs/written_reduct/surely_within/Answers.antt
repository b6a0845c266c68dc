use Rattle.qrp_rules.proofs.Cited.{rules, tests, MatchBool-at_true, cases_from_all, YieldsList-from_slice, Literal, each_within}
use Rattle.written_steps.proofs.Cited.{Has}
use Rattle.written_steps.proofs.written_reduct.surely_within.Goals as goal

pub returns : goal.returns
returns c = λ t l h.
    let Is : Literal → Type 0 = Has c.set_each.new.self in
    c.set_each.ensures l (each_within Is c.args.lits.now (MatchBool-at_true _ _ t (cases_from_all _ _ _ Is (λ _. Unit {0}) c.all.ensures.ran
    (YieldsList-from_slice c.args.lits.now cc) (λ x q k. search (rules, tests)) (λ x q k. tt))) l h)
