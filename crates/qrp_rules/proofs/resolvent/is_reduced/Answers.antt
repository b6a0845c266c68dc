use Rattle.qrp_rules.proofs.Cited.{◌∙◌, sym, refl, true≢false}
use Rattle.qrp_rules.proofs.Reducing.{resolvent_kept}
use Rattle.qrp_rules.proofs.resolvent.is_reduced.Goals as goal

pub returns-then-is_subset_up_to-2 : goal.returns-then-is_subset_up_to-2
returns-then-is_subset_up_to-2 g c = (
  λ _. resolvent_kept g.S.Side.side c.args.prefix.now c.args.step.a.now c.args.step.b.now c.args.step.to.now c.args.pivot
      (rw c.number.ensures.value at c.if-is_subset_up_to.ensures.0 refl)
      (rw c.number.ensures.value at c.if-is_subset_up_to-2.ensures.0 refl),
  λ _. refl,
)

pub returns-then-is_subset_up_to-3 : goal.returns-then-is_subset_up_to-3
returns-then-is_subset_up_to-3 g c =
    let told = c.reducible_in_parents.ensures c.args.step.to.now in
    let of_a = rw c.number.ensures.value at c.if-is_subset_up_to-3.ensures in
    let of_b = rw c.number.ensures.value at c.is_subset_up_to-then-is_subset_up_to-3.ensures in
    ((λ t. told.1 (of_a.0 refl, of_b.0 t)), (λ all. of_b.1 (told.0 all).1))

pub returns-else-is_subset_up_to-3 : goal.returns-else-is_subset_up_to-3
returns-else-is_subset_up_to-3 g c = (
  (λ t. absurd (true≢false (sym t ∙ c.if-is_subset_up_to-3.false))),
  (λ all. (rw c.number.ensures.value at c.is_subset_up_to-2.ensures).1 ((c.reducible_in_parents.ensures c.args.step.to.now).0 all).0),
)
