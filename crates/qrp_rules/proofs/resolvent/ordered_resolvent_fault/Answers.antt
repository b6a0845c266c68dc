use Rattle.qrp_rules.proofs.Cited.{Some, None, inl, inr, refl, false≢true, S10, S11, S12}
use Rattle.qrp_rules.proofs.ResolventRows.{at_pivot}
use Rattle.qrp_rules.proofs.resolvent.ordered_resolvent_fault.Goals as goal

pub returns-in-Nothing : goal.returns-in-Nothing
returns-in-Nothing g c = inl ((λ h. c.in-Nothing.ensures h.0 h.1), refl)

pub returns-in-More : goal.returns-in-More
returns-in-More g c = let m = c.in-More.ensures in inr ((m.0, m.2), inl ((λ h. m.4 (h m.0 m.1 m.2 m.3)), refl))

pub returns-then-not-is_pivot : goal.returns-then-not-is_pivot
returns-then-not-is_pivot g c =
    at_pivot c.args.rules g.S.Side.side c.args.prefix.now c.args.step.a.now c.args.step.b.now c.args.step.to.now c.in-One.pivot (Some S10) c.in-One.ensures
    (inl ((λ d. false≢true (c.if-not-is_pivot.ensures.1 d)), refl))

pub returns-then-not-is_within : goal.returns-then-not-is_within
returns-then-not-is_within g c =
    at_pivot c.args.rules g.S.Side.side c.args.prefix.now c.args.step.a.now c.args.step.b.now c.args.step.to.now c.in-One.pivot (Some S11) c.in-One.ensures
    (inr (c.if-not-is_pivot.ensures.0 refl, inl ((λ d. false≢true (c.if-not-is_within.ensures.1 d)), refl)))

pub returns-then-not-is_reduced : goal.returns-then-not-is_reduced
returns-then-not-is_reduced g c =
    at_pivot c.args.rules g.S.Side.side c.args.prefix.now c.args.step.a.now c.args.step.b.now c.args.step.to.now c.in-One.pivot (Some S12) c.in-One.ensures
    (inr (
      c.if-not-is_pivot.ensures.0 refl,
      inr (c.if-not-is_within.ensures.0 refl, inl ((λ d. false≢true (c.if-not-is_reduced.ensures.1 d)), refl)),
    ))

pub returns-else-not-is_reduced : goal.returns-else-not-is_reduced
returns-else-not-is_reduced g c =
    at_pivot c.args.rules g.S.Side.side c.args.prefix.now c.args.step.a.now c.args.step.b.now c.args.step.to.now c.in-One.pivot None c.in-One.ensures
    (c.if-not-is_pivot.ensures.0 refl, (c.if-not-is_within.ensures.0 refl, (c.if-not-is_reduced.ensures.0 refl, tt)))
