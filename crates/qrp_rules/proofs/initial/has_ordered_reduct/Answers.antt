use Rattle.qrp_rules.proofs.Cited.{rules}
use Rattle.qrp_rules.proofs.ReductsByMembers.{reduct_told}
use Rattle.qrp_rules.proofs.initial.has_ordered_reduct.Goals as goal

pub returns : goal.returns
returns c = search (rules, reduct_told, c.ordered_reduct_fault_by.ensures, c.is_none.ensures)
