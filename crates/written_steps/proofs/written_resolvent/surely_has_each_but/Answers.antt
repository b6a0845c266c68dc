use Rattle.qrp_rules.proofs.Cited.{◌≡◌, ◌⊎◌, rules, tests, MatchBool-at_true, cases_from_all, YieldsList-from_slice, Literal, each_within}
use Rattle.written_steps.proofs.Cited.{Has}
use Rattle.written_steps.proofs.written_resolvent.surely_has_each_but.Goals as goal

pub returns : goal.returns
returns c = λ t. let Is : Literal → Type 0 = λ l. (l.var ≡ c.args.pivot) ⊎ Has c.args.seen.now l in
    each_within Is c.args.lits.now (MatchBool-at_true _ _ t (cases_from_all _ _ _ Is (λ _. Unit {0}) c.all.ensures.ran
    (YieldsList-from_slice c.args.lits.now cc) (λ x q k. search (rules, tests)) (λ x q k. tt)))
