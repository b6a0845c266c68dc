-- Circuits with the first inputs alone: the others are always false.
use Rattle.std.specs.Prelude.{ℕ, ◌-◌, nat_lt, if◌then◌else◌, map, take, length}
use Rattle.aiger.specs.Circuits.{Circuit}
use Rattle.aiger.specs.declared.circuit.Gate.{Gate}
use Rattle.aiger.specs.Wires.{Wire}

-- the variable for the one of this number, if of the inputs up to `all` those up to `kept` stay: for the others it is the constant
abbrev pub moved : (kept all n : ℕ) → ℕ
moved kept all n = if nat_lt kept n then (if nat_lt all n then n - (all - kept) else 0) else n

-- the wire for this one
abbrev pub moved_wire : (kept all : ℕ) → Wire → Wire
moved_wire kept all w = record { var = moved kept all w.var; negated = w.negated }

-- the gate for this one
abbrev pub moved_gate : (kept all : ℕ) → Gate → Gate
moved_gate kept all g = record { left = moved_wire kept all g.left; right = moved_wire kept all g.right }

-- the output for this one
abbrev pub moved_output : (kept all : ℕ) → ℕ × Wire → ℕ × Wire
moved_output kept all o = (o.0, moved_wire kept all o.1)

-- the circuit with the first inputs alone, in which the others are always false
abbrev pub with_inputs : (kept : ℕ) → Circuit → Circuit
with_inputs kept c = record {
  inputs = take kept c.inputs;
  outputs = map (moved_output kept (length c.inputs)) c.outputs;
  gates = map (moved_gate kept (length c.inputs)) c.gates;
}
