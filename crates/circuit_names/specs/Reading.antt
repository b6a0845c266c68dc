-- How the text of a circuit with names is read: as AIGER's without names (AIGER 1.9: Biere, Heljanko, Wieringa 2011), and a name is what stands
-- before the end of its line.
use Rattle.std.specs.Prelude.{ℕ, Bool, true, false, if◌then◌else◌, List, [], ◌∷◌, Option, None, Some}
use Rattle.aiger.specs.declared.circuit.Gate.{Gate}
use Rattle.aiger.specs.Reading.{Parts, and_then, ascii_parts, binary_parts, named, table_read}
use Rattle.aiger.specs.Wires.{Wire}
use Rattle.qbf_tokens.specs.Tokens.{is_line_end}
use Rattle.qcir.specs.Names.{Name}

-- a circuit whose inputs and outputs have names
pub record NamedCircuit : Type 0 where
  pub inputs : List Name
  pub outputs : List (Name × Wire)
  pub gates : List Gate

-- with a byte in front of a name
abbrev pub with_byte : ℕ → Name × List ℕ → Option (Name × List ℕ)
with_byte b read = Some (b ∷ read.0, read.1)

-- the bytes before the end of a line
abbrev pub name_read : List ℕ → Option (Name × List ℕ)
name_read [] = None
name_read (b ∷ text) = if is_line_end b then Some ([], text) else and_then (name_read text) (with_byte b)

-- the circuit of these parts and names
abbrev pub circuit_of : Parts → List Name × List Name → Option NamedCircuit
circuit_of p names = Some (record { inputs = names.0; outputs = named names.1 p.wires; gates = p.gates })

-- the circuit of what was read, with its symbols
abbrev pub with_names : Parts × List ℕ → Option NamedCircuit
with_names p = and_then (table_read name_read p.0.counts p.1) (circuit_of p.0)

-- what stands before the symbols
abbrev pub parts : (binary : Bool) → List ℕ → Option (Parts × List ℕ)
parts true text = binary_parts text
parts false text = ascii_parts text

-- the circuit of a text in AIGER's binary or ASCII format
abbrev pub named_circuit : (binary : Bool) → List ℕ → Option NamedCircuit
named_circuit binary text = and_then (parts binary text) with_names
