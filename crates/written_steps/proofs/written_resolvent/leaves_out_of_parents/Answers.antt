use Rattle.std.proofs.lemmas.Result.{IfOk-weaker}
use Rattle.qrp_rules.proofs.Cited.{inl, inr}
use Rattle.written_steps.proofs.Cited.{Has}
use Rattle.written_steps.proofs.WrittenSteps.{accounted_follows}
use Rattle.written_steps.proofs.written_resolvent.leaves_out_of_parents.Goals as goal

pub returns : goal.returns
returns g c = IfOk-weaker c.put_each_left_out-2.result _ _ (λ _ each t rules allowed.
    let is = c.requires in
    let of_to = c.in_ok-set_if_clean.ensures.members c.if-not-branch.false in
    let put_a = c.put_each_left_out.ensures.put in
    let put_b = c.put_each_left_out-2.ensures.put in
    let each_a = rw c.var-pivot.ensures at c.in_ok-put_each_left_out.ensures.each c.if-not-branch-2.false in
    let told = rw c.var-pivot.ensures at c.reducible_in_parents.ensures c.args.step.to.now in
    accounted_follows rules g.S.Side.side c.args.prefix.now c.args.step.a.now c.args.step.b.now c.args.step.to.now
    c.args.rests.a.now c.args.rests.b.now c.args.rests.pivot is
    (rw c.var-pivot.ensures at c.surely_apart.ensures c.if-not-surely_apart.false)
    (Has c.put_each_left_out-2.new.seen) (λ _. Unit {0})
    (put_b.clean (put_a.clean
    (λ l h k. c.in_ok-set_if_clean.ensures.clean c.if-not-branch.false l ((of_to l).0 h) ((of_to _).0 k))))
    (λ l h. put_b.kept l (put_a.kept l ((of_to l).1 h)))
    (λ l h. elim (each_a l h) [ inl e ↦ inl e | inr k ↦ inr (put_b.kept l k) ])
    (rw c.var-pivot.ensures at each t)
    (λ l h. inr tt)
    allowed
    (told.1 (
      (λ l h. elim (is.left l h) [
        | inl e ↦ inr (inl e)
        | inr (inl k) ↦ inl k
        | inr (inr k) ↦ elim (each_a l k) [
          | inl e ↦ inr (inl e)
          | inr has ↦ elim (put_a.only l has) [ inl old ↦ inl ((of_to l).0 old) | inr may ↦ inr (inr may) ]
        ]
      ]),
      (λ l h. elim (is.right l h) [
        | inl e ↦ inr (inl e)
        | inr (inl k) ↦ inl k
        | inr (inr k) ↦ elim (rw c.var-pivot.ensures at c.surely_covers_but.ensures c.if-not-surely_covers_but.false l k) [
          | inl e ↦ inr (inl e)
          | inr (inl has) ↦ inl ((of_to l).0 has)
          | inr (inr may) ↦ inr (inr may)
        ]
      ]),
    )))
    c.put_each_left_out-2.ensures.each
