-- The text of a circuit with names reads back.
use Rattle.std.proofs.Common.{arith, ◌≡◌, ◌<◌, ◌^◌, ℕ, Bool, true, false, List, [], ◌∷◌, ◌++◌, length, map, refl, sym, ap, ◌∙◌, Some}
use Rattle.std.specs.List.{AllByRecursion}
use Rattle.std.proofs.lemmas.List.{length-map}
use Rattle.aiger.specs.Circuits.{Circuit, IsOrdered}
use Rattle.aiger.specs.Formats.{unnamed_text}
use Rattle.aiger.specs.Reading.{Parts, table_read}
use Rattle.aiger.specs.Wires.{Wire}
use Rattle.aiger.proofs.ReadCircuits.{AreRead, ascii_parts_back, binary_parts_back, count_names, goes_on, named_back, parts_of, table_back}
use Rattle.qcir.specs.Names.{Name}
use Rattle.qcir.specs.Texts.{name_of}
use Rattle.qcir.proofs.WrittenLines.{IsInside}
use Rattle.circuit_names.specs.Laws.{NamedCircuitsReadBack, gates_in}
use Rattle.circuit_names.specs.Reading.{NamedCircuit, circuit_of, name_read, parts, with_byte, with_names}
use Rattle.circuit_names.specs.Symbols.{named_text, symbol_table}
use Rattle.circuit_names.proofs.WordNames.{all_inside, names_are_words}

name_back : (w rest : List ℕ) → AllByRecursion IsInside w → name_read (w ++ 10 ∷ rest) ≡ Some (w, rest)
name_back [] rest inside = refl
name_back (b ∷ w) rest inside = rw inside.0 (goes_on (name_read (w ++ 10 ∷ rest)) (w, rest) (with_byte b) (name_back w rest inside.1))

names_back : (ws : List Name) → AllByRecursion (λ w. AllByRecursion IsInside w) ws → AreRead name_read ws ws
names_back [] all = tt
names_back (w ∷ ws) all = (λ rest. name_back w rest all.0, names_back ws all.1)

parts_back : (binary : Bool) (c : Circuit) (rest : List ℕ) → IsOrdered c → length c.outputs < 2 ^ 64
    → parts binary (unnamed_text binary c ++ rest) ≡ Some (parts_of c (gates_in binary c.gates), rest)
parts_back true c rest ordered few = binary_parts_back c rest ordered few
parts_back false c rest ordered few = ascii_parts_back c rest ordered few

pub named_circuits_read_back : NamedCircuitsReadBack
named_circuits_read_back binary bytes q c is ordered few =
    let words = names_are_words bytes q is in
    let name : ℕ → Name = name_of q.names in
    let numbers : List ℕ = map (λ o. o.0) c.outputs in
    let inputs : List Name = map name c.inputs in
    let outputs : List Name = map name numbers in
    let found : Parts = parts_of c (gates_in binary c.gates) in
    let count : length outputs ≡ length c.outputs = length-map numbers name ∙ count_names c.outputs in
    let least = ordered.few in
    goes_on (parts binary (named_text binary q.names c)) (found, symbol_table q.names c) with_names
    (parts_back binary c (symbol_table q.names c) ordered few)
    ∙ (goes_on (table_read name_read found.counts (symbol_table q.names c)) (inputs, outputs) (circuit_of found)
    (table_back name_read found.counts inputs outputs inputs outputs (sym (length-map c.inputs name)) (sym count)
    (let e = length-map c.inputs name in omega (arith, e, least)) (omega (arith, count, few))
    (names_back inputs (all_inside q.names words c.inputs)) (names_back outputs (all_inside q.names words numbers)))
    ∙ ap (λ (os : List (Name × Wire)). Some (let made : NamedCircuit = record { inputs = inputs; outputs = os; gates = gates_in binary c.gates } in made))
    (named_back name c.outputs))
