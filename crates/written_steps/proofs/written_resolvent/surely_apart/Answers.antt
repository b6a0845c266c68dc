use Rattle.qrp_rules.proofs.Cited.{◌≡◌, rules, tests, YieldsList-from_slice, Literal, MatchBool-at_true, cases_from_all, each_within}
use Rattle.written_steps.proofs.written_resolvent.surely_apart.Goals as goal

pub returns : goal.returns
returns c = λ t. each_within (λ (l : Literal). l.var ≡ c.args.var → ⊥) c.args.lits.now
    (MatchBool-at_true _ _ t (cases_from_all _ _ _ (λ (l : Literal). l.var ≡ c.args.var → ⊥) (λ _. Unit {0}) c.all.ensures.ran
    (YieldsList-from_slice c.args.lits.now cc) (λ x q k. search (rules, tests)) (λ x q k. tt)))
