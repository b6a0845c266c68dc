-- What is proved of the texts of circuits with names.
use Rattle.std.specs.Prelude.{◌≡◌, ◌<◌, ◌^◌, ◌+◌, ℕ, Bool, true, false, List, ◌∷◌, ◌++◌, Some, Ok, length, map, slice_get, codes, decimal}
use Rattle.std.specs.List.{slice_split}
use Rattle.aiger.specs.Circuits.{Circuit, IsOrdered}
use Rattle.aiger.specs.declared.circuit.Gate.{Gate}
use Rattle.aiger.specs.Laws.{greater_first}
use Rattle.qbf_tokens.specs.Tokens.{is_line_end}
use Rattle.qcir.specs.Names.{Name}
use Rattle.qcir.specs.Reading.{Question, read_gates}
use Rattle.qcir.specs.Texts.{name_at, name_of}
use Rattle.circuit_names.specs.Reading.{NamedCircuit, named_circuit}
use Rattle.circuit_names.specs.Symbols.{named_text, symbol_table}

-- the lines of the symbol table with these names, and what stands after them, which is nothing
abbrev pub table_lines : List Name → Circuit → List (List ℕ)
table_lines names c = slice_split is_line_end (symbol_table names c)

-- a line of the table without its line end
abbrev pub symbol : List ℕ → ℕ → Name → List ℕ
symbol letter n name = letter ++ (decimal n ++ 32 ∷ name)

-- Each line of the table carries the name that the formula of gates gives to the variable of its input or output. The lines of the outputs
-- stand after those of the inputs.
pub record AreNamed (q : Question) (c : Circuit) (i v : ℕ) (name : Name) : Type 0 where
  pub inputs : slice_get c.inputs i ≡ Some v → slice_get (table_lines q.names c) i ≡ Some (symbol (codes "i") i name)
  pub outputs : slice_get (map (λ o. o.0) c.outputs) i ≡ Some v
      → slice_get (table_lines q.names c) (length c.inputs + i) ≡ Some (symbol (codes "o") i name)

abbrev pub VariablesAreNamed : Type 0
VariablesAreNamed = (bytes : List ℕ) (q : Question) (c : Circuit) (i v : ℕ) (name : Name) → read_gates bytes ≡ Ok q → IsOrdered c
    → length c.outputs < 2 ^ 64 → name_at q.names v ≡ Some name → AreNamed q c i v name

-- the gates as a text of the format has them
abbrev pub gates_in : (binary : Bool) → List Gate → List Gate
gates_in true gates = map greater_first gates
gates_in false gates = gates

-- the circuit with these names
abbrev pub with_names_of : (binary : Bool) → List Name → Circuit → NamedCircuit
with_names_of binary names c = record {
  inputs = map (name_of names) c.inputs;
  outputs = map (λ o. (name_of names o.0, o.1)) c.outputs;
  gates = gates_in binary c.gates;
}

-- The text of a circuit with the names of a formula of gates reads back as that circuit with these names: in the ASCII format as it is, and in
-- the binary one with the wire of the greater literal in front of each gate's other.
abbrev pub NamedCircuitsReadBack : Type 0
NamedCircuitsReadBack = (binary : Bool) (bytes : List ℕ) (q : Question) (c : Circuit) → read_gates bytes ≡ Ok q → IsOrdered c
    → length c.outputs < 2 ^ 64 → named_circuit binary (named_text binary q.names c) ≡ Some (with_names_of binary q.names c)
