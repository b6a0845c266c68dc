use Rattle.qrp_rules.proofs.Cited.{false≢true, refl}
use Rattle.qbf_core.proofs.Order.{clash_from}
use Rattle.qrp_rules.proofs.ReductsByMembers.{not_clean}
use Rattle.written_steps.proofs.cube_fault.is_tautology.Goals as goal

pub returns-then-branch : goal.returns-then-branch
returns-then-branch c =
    (λ t. absurd (false≢true t), λ h. absurd (not_clean c.args.clause.now h (c.in_ok-surely_clean.ensures c.if-branch.true)))

pub returns-in-Some : goal.returns-in-Some
returns-in-Some c =
    let told = c.in-Some.ensures in (
      (λ t. clash_from c.args.clause.now _ told.0 (c.set_each.ensures _ told.1)),
      (λ h. refl),
    )
