use Rattle.qrp_rules.proofs.Cited.{rules, tests, arith, common_steps, false≢true, clean_from_same, cases_from_any, YieldsList-from_slice, Literal, negated, positive, ◌∈◌, any_members}
use Rattle.qbf_core.proofs.Order.{clash_from}
use Rattle.qrp_rules.proofs.MembersDecide.{same_self}
use Rattle.qrp_rules.proofs.ReductsByMembers.{not_clean}
use Rattle.qrp_rules.proofs.initial.has_clash.Goals as goal

pub returns-then-is_ordered : goal.returns-then-is_ordered
returns-then-is_ordered c = grind (arith, common_steps, false≢true, not_clean, clean_from_same, same_self)

pub returns : goal.returns
returns c =
    let tells = any_members (λ (l : Literal). negated l ∈ c.args.clause.now) c.args.clause.now c.any.result
    (cases_from_any _ _ _ (λ (l : Literal). negated l ∈ c.args.clause.now) (λ (l : Literal). negated l ∈ c.args.clause.now → ⊥)
    c.any.ensures.ran (YieldsList-from_slice c.args.clause.now cc) (λ x q k. search (rules, tests)) (λ x q k. search (rules, tests))) in (
      (λ t. let w = tells.0 t in clash_from c.args.clause.now w.0 w.1 w.2),
      (λ h. tells.1 (positive h.0, h.1, h.2)),
    )
