-- The names of a formula of gates that was read are words, so no line end stands within.
use Rattle.std.proofs.Common.{◌≡◌, ℕ, zero, suc, ◌-◌, List, [], ◌∷◌, map, Ok, slice_get}
use Rattle.std.specs.List.{AllByRecursion}
use Rattle.std.specs.Option.{unwrap_or}
use Rattle.qcir.specs.Names.{Name, Question}
use Rattle.qcir.specs.Reading.{read_gates}
use Rattle.qcir.specs.Texts.{name_of}
use Rattle.qcir.proofs.Spelled.{all_words, reads_questions}
use Rattle.qcir.proofs.WrittenLines.{IsInside, whole_inside}
use Rattle.qcir.proofs.WrittenTokens.{IsWord}

abbrev pub AreWords : List Name → Type 0
AreWords names = AllByRecursion IsWord names

pub names_are_words : (bytes : List ℕ) (q : Question) → read_gates bytes ≡ Ok q → AreWords q.names
names_are_words bytes q is = let spelled = (reads_questions bytes q).0 is in all_words q.names spelled.words

-- ---- by their numbers

inside_at : (names : List Name) (i : ℕ) → AreWords names → AllByRecursion IsInside (unwrap_or (slice_get names i) [])
inside_at [] i are = tt
inside_at (w ∷ names) zero are = whole_inside w are.0
inside_at (w ∷ names) (suc i) are = inside_at names i are.1

pub all_inside : (names : List Name) → AreWords names → (vs : List ℕ) → AllByRecursion (λ w. AllByRecursion IsInside w) (map (name_of names) vs)
all_inside names are [] = tt
all_inside names are (v ∷ vs) = (inside_at names (v - 1) are, all_inside names are vs)
