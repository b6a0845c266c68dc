-- The lines of refusals.
use Rattle.std.specs.Prelude.{ℕ, nat_eq, if◌then◌else◌, List, codes}
use Rattle.qrp_report.specs.Lines.{fault_line, line, numbers_line}
use Rattle.gate_verify.specs.declared.fault.Unverified.{Unverified}
use Rattle.gate_verify.specs.declared.fault.Unverified.TheVariants as fault
use Rattle.gate_report.specs.declared.refusal.GateRefusal.{GateRefusal}
use Rattle.gate_report.specs.Refusals.{question_refusal, too_long}

-- the line for a refusal of a formula of gates
abbrev pub gate_line : GateRefusal → List ℕ
gate_line r =
    if nat_eq r.number 1 then line (codes "DEVICE formula")
    else (if nat_eq r.number 11 then line (codes "NO MEMORY")
    else (if nat_eq r.number 13 then line (codes "NO CLAUSES")
    else numbers_line (codes "REFUSED formula Q") r.number (codes " line ") r.line))

-- the line for why no formula of gates was verified: the text, the number of clauses or the proof
abbrev pub unverified_line : Unverified → List ℕ
unverified_line (fault.Question e n) = gate_line (question_refusal e n)
unverified_line fault.TooLong = gate_line too_long
unverified_line (fault.Proof e) = fault_line e
