-- The words of the command line.
use Rattle.std.specs.Prelude.{◌≡◌, ℕ, true, false, List, [], ◌∷◌, ◌⊎◌, Some, None, codes}
use Rattle.qrp_cli.specs.Words.{HasTexts, Texts}
use Rattle.qrp_gates.specs.declared.job.Job.{Job}
use Rattle.qrp_gates.specs.declared.job.Job.TheVariants as job
use Rattle.qrp_program.specs.Words.{Request, any_pivot, plain}

-- `strategy` on a formula and a trace, after the flag for the binary format, or after both flags in any order
abbrev pub HasBinaryTexts : List (List ℕ) → Texts → Type 0
HasBinaryTexts words r = (f : List ℕ) × (t : List ℕ) × (
    ((words ≡ codes "strategy" ∷ codes "--binary" ∷ f ∷ t ∷ []) × (r ≡ record { rules = plain; formula = 2; trace = 3 }))
    ⊎ (((words ≡ codes "strategy" ∷ codes "--qu" ∷ codes "--binary" ∷ f ∷ t ∷ []) × (r ≡ record { rules = any_pivot; formula = 3; trace = 4 }))
    ⊎ ((words ≡ codes "strategy" ∷ codes "--binary" ∷ codes "--qu" ∷ f ∷ t ∷ []) × (r ≡ record { rules = any_pivot; formula = 3; trace = 4 }))))

-- the words after the program's name are a row of the usage; any word may name a file
abbrev pub IsRow : List (List ℕ) → Request Job → Type 0
IsRow words r =
    ((t : Texts) × HasTexts (codes "check") words t × (r ≡ record { job = job.Check t.rules; formula = t.formula; trace = Some t.trace }))
    ⊎ (((t : Texts) × HasBinaryTexts words t
    × (r ≡ record { job = job.Strategy t.rules true; formula = t.formula; trace = Some t.trace }))
    ⊎ (((t : Texts) × HasTexts (codes "strategy") words t × ((b : Texts) → HasBinaryTexts words b → ⊥)
    × (r ≡ record { job = job.Strategy t.rules false; formula = t.formula; trace = Some t.trace }))
    ⊎ ((f : List ℕ) × (words ≡ codes "clauses" ∷ f ∷ []) × (r ≡ record { job = job.Clauses; formula = 1; trace = None }))))
