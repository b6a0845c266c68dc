-- The text of a circuit in either of AIGER's formats.
use Rattle.std.specs.Prelude.{ℕ, Bool, true, false, List}
use Rattle.aiger.specs.Binary.{binary_text, unnamed_binary}
use Rattle.aiger.specs.Circuits.{Circuit}
use Rattle.aiger.specs.Texts.{ascii_text, unnamed_ascii}

-- the text of a circuit in AIGER's binary or ASCII format
abbrev pub circuit_text : (binary : Bool) → Circuit → List ℕ
circuit_text true c = binary_text c
circuit_text false c = ascii_text c

-- what stands before its symbols
abbrev pub unnamed_text : (binary : Bool) → Circuit → List ℕ
unnamed_text true c = unnamed_binary c
unnamed_text false c = unnamed_ascii c
