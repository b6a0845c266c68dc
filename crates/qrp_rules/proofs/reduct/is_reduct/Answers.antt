use Rattle.std.proofs.Common.{rules}
use Rattle.qrp_rules.proofs.ReductsByMembers.{reduct_told}
use Rattle.qrp_rules.proofs.reduct.is_reduct.Goals as goal

pub returns : goal.returns
returns g c = search (rules, reduct_told)
