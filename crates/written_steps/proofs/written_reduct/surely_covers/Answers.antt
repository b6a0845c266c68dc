use Rattle.qrp_rules.proofs.Cited.{◌⊎◌, inl, inr, rules, tests, MatchBool-at_true, cases_from_all, YieldsList-from_slice, Literal}
use Rattle.qrp_rules.proofs.Cited.{each_within, TakesOut}
use Rattle.written_steps.proofs.Cited.{Has}
use Rattle.written_steps.proofs.written_reduct.surely_covers.Goals as goal

pub returns : goal.returns
returns c = λ t l h.
    let Is : Literal → Type 0 = λ m. Has c.set_if_clean.new.seen m ⊎ TakesOut c.args.reducible m.var in
    elim (each_within Is c.args.from.now (MatchBool-at_true _ _ t (cases_from_all _ _ _ Is (λ _. Unit {0}) c.all.ensures.ran
    (YieldsList-from_slice c.args.from.now cc) (λ x q k. search (rules, tests)) (λ x q k. tt))) l h) [
      | inl has ↦ inl ((c.in_ok-set_if_clean.ensures.members c.if-not-branch.false l).0 has)
      | inr may ↦ inr may
    ]
