use Rattle.qrp_rules.proofs.Cited.{rules, tests, cases_from_any, YieldsList-from_slice, Literal, ◌∈◌, any_members}
use Rattle.qrp_rules.proofs.initial.has_common_literal.Goals as goal

pub returns : goal.returns
returns c = any_members (λ (l : Literal). l ∈ c.args.set.now) c.args.clause.now c.any.result
    (cases_from_any _ _ _ (λ (l : Literal). l ∈ c.args.set.now) (λ (l : Literal). l ∈ c.args.set.now → ⊥) c.any.ensures.ran
    (YieldsList-from_slice c.args.clause.now cc) (λ x q k. search (rules, tests)) (λ x q k. search (rules, tests)))
