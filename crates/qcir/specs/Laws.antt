-- What is read is the formula of gates that the bytes spell.
use Rattle.std.specs.Prelude.{◌≡◌, ◌↔◌, ℕ, List, length, Ok}
use Rattle.std.specs.List.{range_with_len}
use Rattle.qbf_gates.specs.Gates.{IsWellFormed, names}
use Rattle.qcir.specs.Grammar.{IsQuestion}
use Rattle.qcir.specs.Reading.{Question, read_gates}
use Rattle.qcir.specs.Texts.{text}

-- what is read is well formed, and its variables and gates are numbered from 1 on, in the order of their names
abbrev pub ReadsWellFormed : Type 0
ReadsWellFormed = (bytes : List ℕ) (q : Question) → read_gates bytes ≡ Ok q
    → IsWellFormed q.formula × (names q.formula ≡ range_with_len 1 (length q.names))

-- a formula of gates is read from bytes exactly if they spell it
abbrev pub ReadsQuestions : Type 0
ReadsQuestions = (bytes : List ℕ) (q : Question) → read_gates bytes ≡ Ok q ↔ IsQuestion bytes q

-- the canonical text of a formula of gates that was read is read as it again
abbrev pub ReadsBack : Type 0
ReadsBack = (bytes : List ℕ) (q : Question) → read_gates bytes ≡ Ok q → read_gates (text q) ≡ Ok q
