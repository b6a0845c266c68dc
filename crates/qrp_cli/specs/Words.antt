-- The words of the command line.
use Rattle.std.specs.Prelude.{◌≡◌, ℕ, List, [], ◌∷◌, ◌⊎◌, Some, None, codes}
use Rattle.qrp_rules.specs.declared.rules.Rules.{Rules}
use Rattle.qrp_cli.specs.declared.job.Job.{Job}
use Rattle.qrp_cli.specs.declared.job.Job.TheVariants as job
use Rattle.qrp_program.specs.Words.{Request, any_pivot, plain}

-- the rules that a trace is checked by, and the places of the formula and the trace among the words
pub record Texts : Type 0 where
  pub rules : Rules
  pub formula : ℕ
  pub trace : ℕ

-- a command on a formula and a trace: two words after it are the two files; of three the first is the flag, or if it is not, the third
abbrev pub HasTexts : List ℕ → List (List ℕ) → Texts → Type 0
HasTexts command words r =
    ((f t : List ℕ) × (words ≡ command ∷ f ∷ t ∷ []) × (r ≡ record { rules = plain; formula = 1; trace = 2 }))
    ⊎ (((f t : List ℕ) × (words ≡ command ∷ codes "--qu" ∷ f ∷ t ∷ []) × (r ≡ record { rules = any_pivot; formula = 2; trace = 3 }))
    ⊎ ((f t : List ℕ) × (words ≡ command ∷ f ∷ t ∷ codes "--qu" ∷ []) × (f ≡ codes "--qu" → ⊥)
    × (r ≡ record { rules = any_pivot; formula = 1; trace = 2 })))

-- the words after the program's name are a row of the usage; any word may name a file
abbrev pub IsRow : List (List ℕ) → Request Job → Type 0
IsRow words r =
    ((t : Texts) × HasTexts (codes "check") words t × (r ≡ record { job = job.Check t.rules; formula = t.formula; trace = Some t.trace }))
    ⊎ (((t : Texts) × HasTexts (codes "trim") words t × (r ≡ record { job = job.Trim t.rules; formula = t.formula; trace = Some t.trace }))
    ⊎ ((f : List ℕ) × (words ≡ codes "format" ∷ f ∷ []) × (r ≡ record { job = job.Format; formula = 1; trace = None })))
