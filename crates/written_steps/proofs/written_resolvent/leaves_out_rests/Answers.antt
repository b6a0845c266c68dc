use Rattle.std.proofs.lemmas.Result.{IfOk-weaker}
use Rattle.qrp_rules.proofs.Cited.{common_steps, arith, inl, inr, ◌∙◌, Literal, TakesOut}
use Rattle.written_steps.proofs.Cited.{Has}
use Rattle.written_steps.proofs.WrittenSteps.{left_follows, put_then}
use Rattle.qrp_rules.proofs.Reducing.{reducible_wider}
use Rattle.written_steps.proofs.written_resolvent.leaves_out_rests.Goals as goal

pub returns : goal.returns
returns g c = IfOk-weaker c.put_each_left_out-2.result _ _ (λ _ each t rules a b is allowed.
    let to = c.args.to.now in
    let May : Literal → Type 0 = λ l. TakesOut c.reducible_in-reducible.result l.var in
    let last = c.put_each_left_out-2.new.seen in
    let of_to = c.in_ok-set_if_clean.ensures.members c.if-not-branch.false in
    let put = put_then _ _ _ _ c.put_each_left_out.ensures.put c.put_each_left_out-2.ensures.put in
    left_follows rules g.S.Side.side c.args.prefix.now a b to c.args.rests.a.now c.args.rests.b.now c.args.rests.pivot is
    (rw c.var-pivot.ensures at c.surely_apart.ensures c.if-not-surely_apart.false)
    (Has last) May
    (put.clean (λ l h k. c.in_ok-set_if_clean.ensures.clean c.if-not-branch.false l ((of_to l).0 h) ((of_to _).0 k)))
    (λ l h. put.kept l ((of_to l).1 h))
    (grind (arith, common_steps))
    (rw c.var-pivot.ensures at each t)
    (λ l h. elim (put.only l h) [ inl k ↦ inl ((of_to l).0 k) | inr m ↦ inr m ])
    allowed
    (reducible_wider g.S.Side.side c.args.prefix.now May _ to
    (c.reducible_in-reducible.ensures g.S.Side.side (c.REDUCED.ensures ∙ g.met.S.Side.reduces))))
    c.put_each_left_out-2.ensures.each

pub returns-then-surely_has_each_but-2 : goal.returns-then-surely_has_each_but-2
returns-then-surely_has_each_but-2 g c = λ _ rules a b is allowed.
    let to = c.args.to.now in
    let of_to = c.in_ok-set_if_clean.ensures.members c.if-not-branch.false in
    left_follows rules g.S.Side.side c.args.prefix.now a b to c.args.rests.a.now c.args.rests.b.now c.args.rests.pivot is
    (rw c.var-pivot.ensures at c.surely_apart.ensures c.if-not-surely_apart.false)
    (Has c.set_if_clean.new.seen) (λ _. ⊥)
    (λ l h k. c.in_ok-set_if_clean.ensures.clean c.if-not-branch.false l ((of_to l).0 h) ((of_to _).0 k))
    (λ l h. (of_to l).1 h)
    (rw c.var-pivot.ensures at c.surely_has_each_but.ensures c.if-surely_has_each_but.true)
    (rw c.var-pivot.ensures at c.surely_has_each_but-then-surely_has_each_but.ensures c.if-surely_has_each_but-2.true)
    (λ l h. inl ((of_to l).0 h)) allowed (λ each l none. absurd none)
