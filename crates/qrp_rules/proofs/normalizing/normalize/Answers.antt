use Rattle.qrp_rules.proofs.Cited.{common_steps, arith, clean_from_same}
use Rattle.qrp_rules.proofs.MembersDecide.{same_self}
use Rattle.qrp_rules.proofs.normalizing.normalize.Goals as goal

pub returns-then-are_bound-clause-fit : goal.returns-then-are_bound-clause-fit
returns-then-are_bound-clause-fit c = grind (arith, common_steps, clean_from_same, same_self)

pub returns-in-Err-clause-clean : goal.returns-in-Err-clause-clean
returns-in-Err-clause-clean c = λ e. c.in-Err.ensures.clean (cc e)
