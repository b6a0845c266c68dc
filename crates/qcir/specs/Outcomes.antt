-- What a call that reads returns: what was to be read, unless an allocation failed.
use Rattle.std.specs.Prelude.{◌≡◌, ℕ, Result, Ok, Err, ⊤}
use Rattle.qcir.specs.declared.fault.QuestionFault.{QuestionFault}
use Rattle.qcir.specs.declared.fault.QuestionFault.TheVariants.{Q11}

-- the fault is that of what was to be read, or an allocation failed
abbrev pub Refuses : {A : Type 0} → Result A QuestionFault → QuestionFault → Type 0
Refuses whole Q11 = ⊤
Refuses whole f = whole ≡ Err f

-- the result is what was to be read
abbrev pub Gives : {A : Type 0} → Result A QuestionFault → Result A QuestionFault → Type 0
Gives whole (Ok a) = whole ≡ Ok a
Gives whole (Err f) = Refuses whole f

-- the new value is what was to be read
abbrev pub LeadsTo : {A T : Type 0} → Result A QuestionFault → A → Result T QuestionFault → Type 0
LeadsTo whole new (Ok t) = whole ≡ Ok new
LeadsTo whole new (Err f) = Refuses whole f

-- the result is what was to be read, and its line; out of memory stands on line 0
abbrev pub Tells : {A : Type 0} → Result A (QuestionFault × ℕ) → Result A (QuestionFault × ℕ) → Type 0
Tells whole (Ok a) = whole ≡ Ok a
Tells whole (Err (Q11, n)) = n ≡ 0
Tells whole (Err (f, n)) = whole ≡ Err (f, n)
