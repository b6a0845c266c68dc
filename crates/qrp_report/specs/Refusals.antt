-- Refusals as data: the letter and the number in the name of a fault, and the position of the fault.
use Rattle.std.specs.Prelude.{ℕ, nat_eq, if◌then◌else◌}
use Rattle.qdimacs.specs.declared.fault.FormulaFault.{FormulaFault}
use Rattle.qdimacs.specs.declared.fault.FormulaFault.TheVariants.{F1, F2, F3, F4, F5, F6, F7, F8, F9}
use Rattle.qrp.specs.declared.fault.TraceFault.{TraceFault}
use Rattle.qrp.specs.declared.fault.TraceFault.TheVariants.{P1, P2, P3, P4, P5, P6, P7, P8, P9}
use Rattle.qrp_rules.specs.declared.fault.RuleFault.{RuleFault}
use Rattle.qrp_rules.specs.declared.fault.RuleFault.TheVariants.{S1, S2, S3, S4, S5, S6, S7, S8, S9, S10, S11, S12}
use Rattle.trace_check.specs.declared.fault.CheckFault.{CheckFault}
use Rattle.trace_check.specs.declared.fault.CheckFault.TheVariants.{C1, C2, C3, C4, C5, C6}
use Rattle.qrp_check.specs.declared.verdict.Fault.{Fault}
use Rattle.qrp_check.specs.declared.verdict.Fault.TheVariants as fault
use Rattle.qrp_report.specs.declared.refusal.Refusal.{Refusal}

-- the number in the name of a fault of the formula's text
abbrev pub formula_number : FormulaFault → ℕ
formula_number F1 = 1
formula_number F2 = 2
formula_number F3 = 3
formula_number F4 = 4
formula_number F5 = 5
formula_number F6 = 6
formula_number F7 = 7
formula_number F8 = 8
formula_number F9 = 9

-- the number in the name of a fault of the trace's text
abbrev pub trace_number : TraceFault → ℕ
trace_number P1 = 1
trace_number P2 = 2
trace_number P3 = 3
trace_number P4 = 4
trace_number P5 = 5
trace_number P6 = 6
trace_number P7 = 7
trace_number P8 = 8
trace_number P9 = 9

-- the number in the name of a fault of a step
abbrev pub rule_number : RuleFault → ℕ
rule_number S1 = 1
rule_number S2 = 2
rule_number S3 = 3
rule_number S4 = 4
rule_number S5 = 5
rule_number S6 = 6
rule_number S7 = 7
rule_number S8 = 8
rule_number S9 = 9
rule_number S10 = 10
rule_number S11 = 11
rule_number S12 = 12

-- a refusal by its letter, its number, the number of the step's fault, and its position
abbrev pub with_parts : ℕ → ℕ → ℕ → ℕ → Refusal
with_parts letter number rule position = record { letter = letter; number = number; rule = rule; position = position }

-- the refusal for a fault of a check; the letter C, 67
abbrev pub check_refusal : CheckFault → Refusal
check_refusal (C1 v) = with_parts 67 1 0 v
check_refusal (C2 v) = with_parts 67 2 0 v
check_refusal (C3 v) = with_parts 67 3 0 v
check_refusal C4 = with_parts 67 4 0 0
check_refusal C5 = with_parts 67 5 0 0
check_refusal (C6 n s) = with_parts 67 6 (rule_number s) n

-- the refusal for any fault; the letters F, 70, and P, 80
abbrev pub refusal_of : Fault → Refusal
refusal_of (fault.Formula e line) = with_parts 70 (formula_number e) 0 line
refusal_of (fault.Trace e line) = with_parts 80 (trace_number e) 0 line
refusal_of (fault.Check c) = check_refusal c

-- the status of a refusal; 1: the proof is refused; 2: a text is; 3: a source failed; 4: an allocation failed
abbrev pub status : Refusal → ℕ
status r =
    if nat_eq r.letter 67 then (if nat_eq r.number 5 then 4 else 1)
    else (if nat_eq r.number 1 then 3 else (if nat_eq r.number 9 then 4 else 2))

-- the status for a fault
abbrev pub fault_status : Fault → ℕ
fault_status e = status (refusal_of e)
