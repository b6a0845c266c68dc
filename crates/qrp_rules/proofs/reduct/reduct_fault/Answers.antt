use Rattle.qrp_rules.proofs.reduct.reduct_fault.Goals as goal

pub returns : goal.returns
returns g c = rw (c.as_slice.ensures.value, c.as_slice-2.ensures.value) at c.ordered_reduct_fault.ensures
