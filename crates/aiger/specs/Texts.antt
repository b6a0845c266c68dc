-- The text of a circuit: AIGER's ASCII format (Biere 2007; version 1.9: Biere, Heljanko, Wieringa 2011), without latches and comments.
-- The format leaves the order of the gates free and takes gaps in the numbers; here they are in the order that its binary format asks for.
use Rattle.std.specs.Prelude.{ℕ, suc, ◌+◌, ◌*◌, List, [], ◌∷◌, ◌++◌, length, map, codes, decimal}
use Rattle.std.specs.List.{flat_map}
use Rattle.aiger.specs.Circuits.{Circuit, Gate, first_gate}
use Rattle.aiger.specs.Wires.{Wire, number_of}

-- numbers after a blank each, and the end of the line
abbrev pub numbers_line : List ℕ → List ℕ
numbers_line [] = 10 ∷ []
numbers_line (n ∷ ns) = 32 ∷ (decimal n ++ numbers_line ns)

-- after the word of a format: the greatest variable; how many inputs, latches, outputs and gates there are
abbrev pub counts : Circuit → List ℕ
counts c = numbers_line ((length c.inputs + length c.gates) ∷ length c.inputs ∷ 0 ∷ length c.outputs ∷ length c.gates ∷ [])

-- the header
abbrev pub header : Circuit → List ℕ
header c = codes "aag" ++ counts c

-- the line of the input with the number n: its literal
abbrev pub input_line : ℕ → List ℕ
input_line n = decimal (2 * n) ++ (10 ∷ [])

-- the lines of the inputs, the first of which has the number n
abbrev pub input_lines : ℕ → List ℕ → List ℕ
input_lines n [] = []
input_lines n (v ∷ vs) = input_line n ++ input_lines (suc n) vs

-- the line of an output: its literal
abbrev pub output_line : ℕ × Wire → List ℕ
output_line o = decimal (number_of o.1) ++ (10 ∷ [])

-- the line of the gate with the number n: its literal, and those of its two wires
abbrev pub gate_line : ℕ → Gate → List ℕ
gate_line n g = decimal (2 * n) ++ numbers_line (number_of g.left ∷ number_of g.right ∷ [])

-- the lines of the gates, the first of which has the number n
abbrev pub gate_lines : ℕ → List Gate → List ℕ
gate_lines n [] = []
gate_lines n (g ∷ gates) = gate_line n g ++ gate_lines (suc n) gates

-- what stands before a name: a letter, a position, counted from 0, and a blank
abbrev pub place : List ℕ → ℕ → List ℕ
place letter n = letter ++ (decimal n ++ (32 ∷ []))

-- the symbol of a name
abbrev pub symbol_line : List ℕ → ℕ → List ℕ → List ℕ
symbol_line letter n name = place letter n ++ (name ++ (10 ∷ []))

-- the symbols of names, the first of which has the position n
abbrev pub symbol_lines : List ℕ → ℕ → List (List ℕ) → List ℕ
symbol_lines letter n [] = []
symbol_lines letter n (name ∷ names) = symbol_line letter n name ++ symbol_lines letter (suc n) names

-- the symbol table: what the inputs and the outputs are called, by their numbers
abbrev pub symbol_table : (ℕ → List ℕ) → Circuit → List ℕ
symbol_table name c = symbol_lines (codes "i") 0 (map name c.inputs) ++ symbol_lines (codes "o") 0 (map name (map (λ o. o.0) c.outputs))

-- what stands after the gates: each number is its own name
abbrev pub symbols : Circuit → List ℕ
symbols c = symbol_table decimal c

-- what stands before the gates
abbrev pub beginning : Circuit → List ℕ
beginning c = header c ++ (input_lines 1 c.inputs ++ flat_map output_line c.outputs)

-- what stands before the symbols
abbrev pub unnamed_ascii : Circuit → List ℕ
unnamed_ascii c = beginning c ++ gate_lines (first_gate c) c.gates

-- the text of a circuit
abbrev pub ascii_text : Circuit → List ℕ
ascii_text c = unnamed_ascii c ++ symbols c
