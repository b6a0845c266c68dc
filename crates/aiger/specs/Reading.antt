-- How the texts of circuits are read (AIGER 1.9: Biere, Heljanko, Wieringa 2011), without latches and comments. A reader takes what it reads
-- from the front, and gives it with the bytes that are left; or nothing, if other bytes stand there.
use Rattle.std.specs.Prelude.{ℕ, zero, suc, ◌+◌, ◌-◌, ◌*◌, nat_eq, nat_lt, Bool, false, if◌then◌else◌, List, [], ◌∷◌, Option, None, Some, codes}
use Rattle.aiger.specs.Circuits.{Circuit, Gate}
use Rattle.aiger.specs.Wires.{Wire, wire_of}

-- what is read of the bytes that are left
abbrev pub and_then : {X Y : Type 0} → Option X → (X → Option Y) → Option Y
and_then None f = None
and_then (Some x) f = f x

-- this word
abbrev pub word : List ℕ → List ℕ → Option (List ℕ)
word [] text = Some text
word (w ∷ ws) [] = None
word (w ∷ ws) (b ∷ text) = if nat_eq w b then word ws text else None

abbrev pub is_digit : ℕ → Bool
is_digit b = if nat_lt b 48 then false else nat_lt b 58

-- the number of the digits at the front, after those of the number n
abbrev pub digits_after : ℕ → List ℕ → ℕ × List ℕ
digits_after n [] = (n, [])
digits_after n (b ∷ text) = if is_digit b then digits_after (10 * n + (b - 48)) text else (n, b ∷ text)

-- what is read, with the byte `end` after it
abbrev pub ended : {X : Type 0} → ℕ → X × List ℕ → Option (X × List ℕ)
ended end (x, []) = None
ended end (x, b ∷ text) = if nat_eq b end then Some (x, text) else None

-- a number in decimal digits, at least one, with the byte `end` after it
abbrev pub number : ℕ → List ℕ → Option (ℕ × List ℕ)
number end [] = None
number end (b ∷ text) = if is_digit b then ended end (digits_after 0 (b ∷ text)) else None

-- how many inputs, outputs and gates there are
pub record Counts : Type 0 where
  pub inputs : ℕ
  pub outputs : ℕ
  pub gates : ℕ

-- these counts, with the bytes that are left
abbrev pub counts_before : (inputs outputs gates : ℕ) → List ℕ → Option (Counts × List ℕ)
counts_before inputs outputs gates text = Some (record { inputs = inputs; outputs = outputs; gates = gates }, text)

-- the counts, if there are no latches and the greatest variable is no less than the sum
abbrev pub counted : (most inputs latches outputs gates : ℕ) → List ℕ → Option (Counts × List ℕ)
counted most inputs latches outputs gates text =
    if nat_lt most (inputs + latches + gates) then None else (if nat_eq latches 0 then counts_before inputs outputs gates text else None)

-- the header after the word of the format: a blank before each number, and the end of the line
abbrev pub header_counts : List ℕ → Option (Counts × List ℕ)
header_counts text =
    and_then (word (32 ∷ []) text) (λ t.
    and_then (number 32 t) (λ m.
    and_then (number 32 m.1) (λ i.
    and_then (number 32 i.1) (λ l.
    and_then (number 32 l.1) (λ o.
    and_then (number 10 o.1) (λ a. counted m.0 i.0 l.0 o.0 a.0 a.1))))))

-- the lines of this many inputs, the first of which has the variable n
abbrev pub inputs_read : ℕ → ℕ → List ℕ → Option (List ℕ)
inputs_read zero n text = Some text
inputs_read (suc k) n text = and_then (number 10 text) (λ r. if nat_eq r.0 (2 * n) then inputs_read k (suc n) r.1 else None)

-- the lines of this many outputs
abbrev pub outputs_read : ℕ → List ℕ → Option (List Wire × List ℕ)
outputs_read zero text = Some ([], text)
outputs_read (suc k) text =
    and_then (number 10 text) (λ r. and_then (outputs_read k r.1) (λ more. Some (wire_of r.0 ∷ more.0, more.1)))

-- with a gate in front of others
abbrev pub with_gate : ℕ → ℕ → List Gate × List ℕ → Option (List Gate × List ℕ)
with_gate left right more = Some (record { left = wire_of left; right = wire_of right } ∷ more.0, more.1)

-- the lines of this many gates, the first of which has the variable n
abbrev pub gates_read : ℕ → ℕ → List ℕ → Option (List Gate × List ℕ)
gates_read zero n text = Some ([], text)
gates_read (suc k) n text =
    and_then (number 32 text) (λ v.
    and_then (number 32 v.1) (λ l.
    and_then (number 10 l.1) (λ r. if nat_eq v.0 (2 * n) then and_then (gates_read k (suc n) r.1) (with_gate l.0 r.0) else None)))

-- with a name in front of others
abbrev pub with_name : {X : Type 0} → X → List X × List ℕ → Option (List X × List ℕ)
with_name name more = Some (name ∷ more.0, more.1)

-- the symbols of this many inputs or outputs, the first of which has the position n; a name is read with the end of its line
abbrev pub names_read : {X : Type 0} → (List ℕ → Option (X × List ℕ)) → List ℕ → ℕ → ℕ → List ℕ → Option (List X × List ℕ)
names_read name letter zero n text = Some ([], text)
names_read name letter (suc k) n text =
    and_then (word letter text) (λ t.
    and_then (number 32 t) (λ p.
    and_then (name p.1) (λ v. if nat_eq p.0 n then and_then (names_read name letter k (suc n) v.1) (with_name v.0) else None)))

-- names and wires side by side
abbrev pub named : {X : Type 0} → List X → List Wire → List (X × Wire)
named [] ws = []
named (n ∷ ns) [] = []
named (n ∷ ns) (w ∷ ws) = (n, w) ∷ named ns ws

-- nothing is left
abbrev pub at_end : {X : Type 0} → X → List ℕ → Option X
at_end x [] = Some x
at_end x (b ∷ text) = None

-- the names of the inputs and of the outputs, which are all that is left
abbrev pub table_read : {X : Type 0} → (List ℕ → Option (X × List ℕ)) → Counts → List ℕ → Option (List X × List X)
table_read name c text =
    and_then (names_read name (codes "i") c.inputs 0 text) (λ i.
    and_then (names_read name (codes "o") c.outputs 0 i.1) (λ o. at_end (i.0, o.0) o.1))

-- what stands before the symbols: the counts, the wires of the outputs and the gates
pub record Parts : Type 0 where
  pub counts : Counts
  pub wires : List Wire
  pub gates : List Gate

-- these parts, with the bytes that are left
abbrev pub parts_before : Counts → List Wire → List Gate × List ℕ → Option (Parts × List ℕ)
parts_before c wires g = Some (record { counts = c; wires = wires; gates = g.0 }, g.1)

-- the parts of a text in the ASCII format
abbrev pub ascii_parts : List ℕ → Option (Parts × List ℕ)
ascii_parts text =
    and_then (word (codes "aag") text) (λ t.
    and_then (header_counts t) (λ c.
    and_then (inputs_read c.0.inputs 1 c.1) (λ t.
    and_then (outputs_read c.0.outputs t) (λ o.
    and_then (gates_read c.0.gates (suc c.0.inputs) o.1) (parts_before c.0 o.0)))))

-- a number in groups of seven bits, the lowest first: each byte but the last has 128 added
abbrev pub delta : List ℕ → Option (ℕ × List ℕ)
delta [] = None
delta (b ∷ text) = if nat_lt b 128 then Some (b, text) else and_then (delta text) (λ r. Some (128 * r.0 + (b - 128), r.1))

-- the two numbers of each of this many gates, the first of which has the variable n
abbrev pub deltas_read : ℕ → ℕ → List ℕ → Option (List Gate × List ℕ)
deltas_read zero n text = Some ([], text)
deltas_read (suc k) n text =
    and_then (delta text) (λ l.
    and_then (delta l.1) (λ r. and_then (deltas_read k (suc n) r.1) (with_gate (2 * n - l.0) (2 * n - l.0 - r.0))))

-- the parts of a text in the binary format
abbrev pub binary_parts : List ℕ → Option (Parts × List ℕ)
binary_parts text =
    and_then (word (codes "aig") text) (λ t.
    and_then (header_counts t) (λ c.
    and_then (outputs_read c.0.outputs c.1) (λ o.
    and_then (deltas_read c.0.gates (suc c.0.inputs) o.1) (parts_before c.0 o.0))))

-- the circuit of these parts and names
abbrev pub circuit_of : Parts → List ℕ × List ℕ → Option Circuit
circuit_of p names = Some (record { inputs = names.0; outputs = named names.1 p.wires; gates = p.gates })

-- the circuit of what was read, with its symbols, whose names are numbers
abbrev pub with_names : Parts × List ℕ → Option Circuit
with_names p = and_then (table_read (number 10) p.0.counts p.1) (circuit_of p.0)

-- the circuit of a text in the ASCII format
abbrev pub ascii_circuit : List ℕ → Option Circuit
ascii_circuit text = and_then (ascii_parts text) with_names

-- the circuit of a text in the binary format
abbrev pub binary_circuit : List ℕ → Option Circuit
binary_circuit text = and_then (binary_parts text) with_names
