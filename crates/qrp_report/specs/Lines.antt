-- The lines of verdicts and refusals.
use Rattle.std.specs.Prelude.{ℕ, Bool, true, false, nat_eq, if◌then◌else◌, List, [], ◌∷◌, ◌++◌, codes, decimal}
use Rattle.qrp_check.specs.declared.verdict.Fault.{Fault}
use Rattle.qrp_report.specs.declared.refusal.Refusal.{Refusal}
use Rattle.qrp_report.specs.Refusals.{refusal_of}

-- a text, with the byte 10 that ends its line
abbrev pub line : List ℕ → List ℕ
line text = text ++ 10 ∷ []

-- the line of two texts, each with a number after it
abbrev pub numbers_line : List ℕ → ℕ → List ℕ → ℕ → List ℕ
numbers_line first a second b = (first ++ decimal a) ++ ((second ++ decimal b) ++ 10 ∷ [])

-- the line for a fault of a text: `device` if its source failed, and if the text is refused, a line with this beginning
abbrev pub text_line : List ℕ → List ℕ → Refusal → List ℕ
text_line device beginning r =
    if nat_eq r.number 1 then device
    else (if nat_eq r.number 9 then line (codes "NO MEMORY") else numbers_line beginning r.number (codes " line ") r.position)

-- the line for a fault of a check: for the trace, for a step, and for a variable of a quantifier set
abbrev pub check_line : Refusal → List ℕ
check_line r =
    if nat_eq r.number 4 then line (codes "REFUSED trace C4")
    else (if nat_eq r.number 5 then line (codes "NO MEMORY")
    else (if nat_eq r.number 6 then numbers_line (codes "REFUSED step ") r.position (codes " S") r.rule
    else numbers_line (codes "REFUSED set C") r.number (codes " variable ") r.position))

-- the line for a refusal, by its letter: F, 70, P, 80, or C
abbrev pub refusal_line : Refusal → List ℕ
refusal_line r =
    if nat_eq r.letter 70 then text_line (line (codes "DEVICE formula")) (codes "REFUSED formula F") r
    else (if nat_eq r.letter 80 then text_line (line (codes "DEVICE trace")) (codes "REFUSED trace P") r
    else check_line r)

-- the line for a fault
abbrev pub fault_line : Fault → List ℕ
fault_line e = refusal_line (refusal_of e)

-- the line of a verdict
abbrev pub verdict_line : Bool → List ℕ
verdict_line true = line (codes "VERIFIED true")
verdict_line false = line (codes "VERIFIED false")
