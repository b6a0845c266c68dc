-- The text of a circuit in AIGER's binary format (Biere 2007; version 1.9: Biere, Heljanko, Wieringa 2011), without latches and comments.
-- Inputs have no lines, and a gate has two numbers: by how much its own literal is above the greater one of its wires', and that above the
-- other.
use Rattle.std.specs.Prelude.{ℕ, zero, suc, ◌+◌, ◌-◌, ◌*◌, ◌/◌, ◌%◌, nat_lt, if◌then◌else◌, List, [], ◌∷◌, ◌++◌, codes}
use Rattle.std.specs.List.{flat_map}
use Rattle.aiger.specs.Circuits.{Circuit, Gate, first_gate}
use Rattle.aiger.specs.Texts.{counts, output_line, symbols}
use Rattle.aiger.specs.Wires.{number_of}

-- a number by its groups of seven bits, the lowest first, in at most this many bytes: each but the last has 128 added
unfoldable pub groups : ℕ → ℕ → List ℕ
groups zero x = []
groups (suc n) x = if nat_lt x 128 then x ∷ [] else (128 + x % 128) ∷ groups n (x / 128)

-- the bytes of a number below 2^35
abbrev pub number_bytes : ℕ → List ℕ
number_bytes x = groups 5 x

-- the literal of a gate's one wire, if it is the greater one
abbrev pub greater : Gate → ℕ
greater g = if nat_lt (number_of g.left) (number_of g.right) then number_of g.right else number_of g.left

-- the literal of the other wire
abbrev pub lesser : Gate → ℕ
lesser g = if nat_lt (number_of g.left) (number_of g.right) then number_of g.left else number_of g.right

-- the bytes of the gate with the number n
abbrev pub gate_bytes : ℕ → Gate → List ℕ
gate_bytes n g = number_bytes (2 * n - greater g) ++ number_bytes (greater g - lesser g)

-- the bytes of the gates, the first of which has the number n
abbrev pub gates_bytes : ℕ → List Gate → List ℕ
gates_bytes n [] = []
gates_bytes n (g ∷ gates) = gate_bytes n g ++ gates_bytes (suc n) gates

-- the header and the outputs' lines
abbrev pub binary_beginning : Circuit → List ℕ
binary_beginning c = codes "aig" ++ counts c ++ flat_map output_line c.outputs

-- what stands before the symbols
abbrev pub unnamed_binary : Circuit → List ℕ
unnamed_binary c = binary_beginning c ++ gates_bytes (first_gate c) c.gates

-- the text of a circuit
abbrev pub binary_text : Circuit → List ℕ
binary_text c = unnamed_binary c ++ symbols c
