-- The meaning of each fault of a formula of gates, in one sentence.
use Rattle.std.specs.Prelude.{ℕ, List, [], map, get_or}
use Rattle.qrp_report.specs.Meanings.{fault_meaning}
use Rattle.gate_verify.specs.declared.fault.Unverified.{Unverified}
use Rattle.gate_verify.specs.declared.fault.Unverified.TheVariants as fault
use Rattle.gate_report.specs.declared.meaning.TheConstants.{GATES}
use Rattle.gate_report.specs.declared.refusal.GateRefusal.{GateRefusal}
use Rattle.gate_report.specs.Refusals.{question_refusal, too_long}

-- the sentence for a refusal of a formula of gates
abbrev pub gate_meaning : GateRefusal → List ℕ
gate_meaning r = get_or (map (λ t. t.now) GATES) r.number []

-- the sentence for why no formula of gates was verified
abbrev pub unverified_meaning : Unverified → List ℕ
unverified_meaning (fault.Question e n) = gate_meaning (question_refusal e n)
unverified_meaning fault.TooLong = gate_meaning too_long
unverified_meaning (fault.Proof e) = fault_meaning e
