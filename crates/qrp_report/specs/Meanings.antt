-- The meaning of each fault, in one sentence.
use Rattle.std.specs.Prelude.{ℕ, nat_eq, if◌then◌else◌, List, [], map, get_or}
use Rattle.qrp_check.specs.declared.verdict.Fault.{Fault}
use Rattle.qrp_report.specs.declared.meaning.TheConstants.{FORMULA, TRACE, CHECK, STEP}
use Rattle.qrp_report.specs.declared.refusal.Refusal.{Refusal}
use Rattle.qrp_report.specs.Refusals.{refusal_of}

-- the sentence for a refusal, from the table for its letter, F, 70, P, 80, or C, 67: that of its number, or of C6 that of its rule
abbrev pub meaning : Refusal → List ℕ
meaning r =
    if nat_eq r.letter 70 then get_or (map (λ t. t.now) FORMULA) r.number []
    else (if nat_eq r.letter 80 then get_or (map (λ t. t.now) TRACE) r.number []
    else (if nat_eq r.letter 67
    then (if nat_eq r.number 6 then get_or (map (λ t. t.now) STEP) r.rule [] else get_or (map (λ t. t.now) CHECK) r.number [])
    else []))

-- the sentence for a fault
abbrev pub fault_meaning : Fault → List ℕ
fault_meaning e = meaning (refusal_of e)
