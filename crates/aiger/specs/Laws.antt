-- What is proved of the texts of circuits.
use Rattle.std.specs.Prelude.{◌≡◌, ◌<◌, ◌^◌, nat_lt, if◌then◌else◌, Some, length, map}
use Rattle.std.specs.List.{AllByRecursion}
use Rattle.aiger.specs.Binary.{binary_text}
use Rattle.aiger.specs.Circuits.{Circuit, Gate, IsOrdered}
use Rattle.aiger.specs.Reading.{ascii_circuit, binary_circuit}
use Rattle.aiger.specs.Texts.{ascii_text}
use Rattle.aiger.specs.Wires.{number_of}

-- the names and the number of outputs fit in 64 bits
pub record AreNamed (c : Circuit) : Type 0 where
  pub few : length c.outputs < 2 ^ 64
  pub inputs : AllByRecursion (λ v. v < 2 ^ 64) c.inputs
  pub outputs : AllByRecursion (λ v. v < 2 ^ 64) (map (λ o. o.0) c.outputs)

-- the same gate, with the wire of the greater literal in front
abbrev pub greater_first : Gate → Gate
greater_first g = if nat_lt (number_of g.left) (number_of g.right) then record { left = g.right; right = g.left } else g

-- The text of a circuit reads back as that circuit: in the ASCII format as it is, and in the binary one with the wire of the greater literal in
-- front of each gate's other.
abbrev pub CircuitsReadBack : Type 0
CircuitsReadBack = (c : Circuit) → IsOrdered c → AreNamed c → (ascii_circuit (ascii_text c) ≡ Some c)
    × (binary_circuit (binary_text c) ≡ Some (record { inputs = c.inputs; outputs = c.outputs; gates = map greater_first c.gates }))
