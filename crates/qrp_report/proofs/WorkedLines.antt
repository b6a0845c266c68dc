-- Worked lines.
use Rattle.std.proofs.Common.{◌≡◌, refl, codes}
use Rattle.std.specs.Fmt.{digits}
use Rattle.qdimacs.specs.declared.fault.FormulaFault.TheVariants.{F6}
use Rattle.qrp.specs.declared.fault.TraceFault.TheVariants.{P1}
use Rattle.qrp_rules.specs.declared.fault.RuleFault.TheVariants.{S12}
use Rattle.trace_check.specs.declared.fault.CheckFault.TheVariants.{C2, C6}
use Rattle.qrp_check.specs.declared.verdict.Fault.TheVariants as fault
use Rattle.qrp_report.specs.Lines.{fault_line}

of_a_text : fault_line (fault.Formula F6 4) ≡ codes "REFUSED formula F6 line 4\n"
unfolding digits
of_a_text = refl

of_a_device : fault_line (fault.Trace P1 0) ≡ codes "DEVICE trace\n"
of_a_device = refl

of_a_variable : fault_line (fault.Check (C2 7)) ≡ codes "REFUSED set C2 variable 7\n"
unfolding digits
of_a_variable = refl

of_a_step : fault_line (fault.Check (C6 5 S12)) ≡ codes "REFUSED step 5 S12\n"
unfolding digits
of_a_step = refl
