-- Which refusals are those of a fault.
use Rattle.std.specs.Prelude.{◌≡◌}
use Rattle.qbf_core.specs.Blocks.{IsVariable}
use Rattle.trace_check.specs.declared.fault.CheckFault.{CheckFault}
use Rattle.trace_check.specs.declared.fault.CheckFault.TheVariants.{C1, C2, C3}
use Rattle.qrp_check.specs.declared.verdict.Fault.{Fault}
use Rattle.qrp_check.specs.declared.verdict.Fault.TheVariants as fault
use Rattle.qrp_report.specs.declared.refusal.Refusal.{Refusal}
use Rattle.qrp_report.specs.Refusals.{refusal_of}

-- if a fault of a check names a variable, its number is in range
abbrev pub CheckNamesVariable : CheckFault → Type 0
CheckNamesVariable (C1 v) = IsVariable v
CheckNamesVariable (C2 v) = IsVariable v
CheckNamesVariable (C3 v) = IsVariable v
CheckNamesVariable other = Unit {0}

-- the same for a fault of any kind
abbrev pub NamesVariable : Fault → Type 0
NamesVariable (fault.Check c) = CheckNamesVariable c
NamesVariable other = Unit {0}

-- the refusal is that of a fault
abbrev pub IsOfFault : Refusal → Type 0
IsOfFault r = (e : Fault) × NamesVariable e × (r ≡ refusal_of e)
