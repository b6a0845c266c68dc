use Rattle.qrp_rules.proofs.Cited.{◌⊎◌, refl, inl, inr, arith, List, false≢true, Literal, ◌∈◌, ◌⊆◌}
use Rattle.qrp_rules.proofs.Reducing.{each_reducible}
use Rattle.qrp_rules.proofs.OrderedLists.{ordered_whole}
use Rattle.qrp_rules.proofs.walks.ordered_reduct_fault_by.Goals as goal

-- a set of which nothing may be missing is a subset
subset : (part whole : List Literal) → ((l : Literal) → l ∈ part → (l ∈ whole) ⊎ ⊥) → part ⊆ whole
subset part whole kept = λ l h. elim (kept l h) [ inl k ↦ k | inr n ↦ absurd n ]

pub returns-then-not-is_subset_up_to : goal.returns-then-not-is_subset_up_to
returns-then-not-is_subset_up_to c = λ side er. inl ((λ all. false≢true (c.if-not-is_subset_up_to.ensures.1 (λ l h. inl (all l h)))), refl)

pub returns-then-not-is_subset_up_to-2 : goal.returns-then-not-is_subset_up_to-2
returns-then-not-is_subset_up_to-2 c = λ side er.
    inr (
      subset c.args.to.now c.args.from.now (c.if-not-is_subset_up_to.ensures.0 refl),
      inl (
        (λ all. false≢true (c.if-not-is_subset_up_to-2.ensures.1 ((each_reducible side c.args.prefix.now c.reducible_in.result
            c.args.from.now c.args.to.now (c.reducible_in.ensures side er)).1 all))),
        refl,
      ),
    )

pub returns-then-from-to : goal.returns-then-from-to
returns-then-from-to c = λ side er.
    let within = subset c.args.to.now c.args.from.now (c.if-not-is_subset_up_to.ensures.0 refl) in (
      within,
      (
        (λ l h. inl
            (ordered_whole c.args.to.now c.args.from.now c.requires.to c.requires.from within (omega (arith, c.if-from-to.true)) l h)),
        tt,
      ),
    )

pub returns : goal.returns
returns c = λ side er. (
  subset c.args.to.now c.args.from.now (c.if-not-is_subset_up_to.ensures.0 refl),
  (
    (each_reducible side c.args.prefix.now c.reducible_in.result c.args.from.now c.args.to.now (c.reducible_in.ensures side er)).0
        (c.if-not-is_subset_up_to-2.ensures.0 refl),
    tt,
  ),
)
