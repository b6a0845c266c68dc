-- The words of the command line.
use Rattle.std.specs.Prelude.{◌≡◌, ◌+◌, ℕ, Bool, true, false, List, [], ◌∷◌, ◌⊎◌, Some, codes}
use Rattle.qrp_program.specs.Words.{Request, any_pivot, plain}
use Rattle.qrp_rules.specs.declared.rules.Rules.{Rules}
use Rattle.qrp_strategy.specs.declared.task.Task.{Task}

-- the word is one of the flags
abbrev pub IsFlag : List ℕ → Type 0
IsFlag word = (word ≡ codes "--qu") ⊎ (word ≡ codes "--binary")

-- what is asked for with these rules and this format, if the files stand from a place on
abbrev pub files_at : Rules → (binary : Bool) → ℕ → Request Task
files_at rules binary i = record { job = record { rules = rules; binary = binary }; formula = i; trace = Some (i + 1) }

-- The words after the program's name are two files, after flags each of which is there at most once. The first of two words is not a flag;
-- else any word may name a file.
abbrev pub IsRow : List (List ℕ) → Request Task → Type 0
IsRow words r = (f : List ℕ) × (t : List ℕ) × (
    ((words ≡ f ∷ t ∷ []) × (IsFlag f → ⊥) × (r ≡ files_at plain false 0))
    ⊎ (((words ≡ codes "--qu" ∷ f ∷ t ∷ []) × (r ≡ files_at any_pivot false 1))
    ⊎ (((words ≡ codes "--binary" ∷ f ∷ t ∷ []) × (r ≡ files_at plain true 1))
    ⊎ (((words ≡ codes "--qu" ∷ codes "--binary" ∷ f ∷ t ∷ []) × (r ≡ files_at any_pivot true 2))
    ⊎ ((words ≡ codes "--binary" ∷ codes "--qu" ∷ f ∷ t ∷ []) × (r ≡ files_at any_pivot true 2))))))
