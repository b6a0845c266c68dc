-- The parts of a canonical text, as they are written one after the other.
use Rattle.std.specs.Prelude.{ℕ, List, ◌∷◌, ◌++◌, decimal}
use Rattle.dimacs_syntax.specs.Cited.{flat_map}
use Rattle.qbf_tokens.specs.Canonical.{spaced_number}
use Rattle.trace_items.specs.Inferences.{Inference}
use Rattle.dimacs_syntax.specs.Texts.{literal_text, closing}

-- the line of a step
abbrev pub step_text : Inference → List ℕ
step_text s = decimal s.number ++ (flat_map literal_text s.lits ++ (32 ∷ 48 ∷ (flat_map spaced_number s.ants ++ closing)))

-- the lines of steps
abbrev pub steps_text : List Inference → List ℕ
steps_text steps = flat_map step_text steps
