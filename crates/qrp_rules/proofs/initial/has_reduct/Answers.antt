use Rattle.qrp_rules.proofs.Cited.{common_steps, sym, arith, false≢true, Clauses, bound_each, clean_from_same, got_in}
use Rattle.qrp_rules.proofs.MembersDecide.{same_self, reduct_members}
use Rattle.qrp_rules.proofs.ReductsByMembers.{not_clean}
use Rattle.qrp_rules.proofs.initial.has_reduct.Goals as goal

pub returns-then-not-is_among : goal.returns-then-not-is_among
returns-then-not-is_among c = (
  λ t. absurd (false≢true t),
  λ h. absurd (false≢true (c.if-not-is_among.ensures.1
      (h.1.within c.in-Some.lit.now (got_in c.args.set.now 0 c.in-Some.lit.now (sym c.in-Some.ensures.value))))),
)

pub returns-then-is_ordered : goal.returns-then-is_ordered
returns-then-is_ordered c = grind (arith, common_steps, clean_from_same, same_self)

pub returns-in-Ok : goal.returns-in-Ok
returns-in-Ok c =
    let told = rw c.as_slice.ensures.value at c.has_ordered_reduct-in-Ok.ensures in (
      (λ t. (
        c.in-Ok.ensures.fit.0,
        reduct_members Clauses c.args.prefix.now c.in-Ok.from c.args.clause.now c.args.set.now c.args.set.now c.in-Ok.ensures.members
            (same_self c.args.set.now) (told.0 t),
      )),
      (λ h. told.1 (reduct_members Clauses c.args.prefix.now c.args.clause.now c.in-Ok.from c.args.set.now c.args.set.now
          (c.in-Ok.ensures.members.1, c.in-Ok.ensures.members.0) (same_self c.args.set.now) h.1)),
    )

pub returns-in-Err-E1 : goal.returns-in-Err-E1
returns-in-Err-E1 c = grind (arith, common_steps, false≢true, not_clean)

pub returns-in-Err-E2 : goal.returns-in-Err-E2
returns-in-Err-E2 c = grind (arith, common_steps, bound_each)
