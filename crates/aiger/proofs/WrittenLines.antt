-- The lines of inputs, gates and symbols, one after the other.
use Rattle.std.proofs.Common.{arith, ◌≡◌, ◌<◌, ◌+◌, ℕ, suc, List, ◌++◌, ap, refl, ◌∙◌, Some, slice_get, drop, length}
use Rattle.lists.proofs.PushedItems.{at_place}
use Rattle.qbf_text.proofs.SentParts.{drop_at}
use Rattle.aiger.specs.Texts.{gate_line, gate_lines, input_line, input_lines, symbol_line, symbol_lines, symbol_table}
use Rattle.aiger.specs.declared.circuit.Gate.{Gate}
use Rattle.aiger.specs.Circuits.{Circuit, first_gate}
use Rattle.aiger.specs.Wires.{Wire}
use Rattle.std.proofs.Common.{map}
use Rattle.std.proofs.lemmas.Option.{slice_get-map}
use Rattle.std.specs.Option.{option_map}
use Rattle.std.specs.Prelude.{codes}

pub inputs_next : (vs : List ℕ) (i : ℕ) → i < length vs
    → input_lines (i + 1) (drop i vs) ≡ input_line (i + 1) ++ input_lines (i + 1 + 1) (drop (i + 1) vs)
inputs_next vs i less =
    let at = at_place vs i less in
    let k : suc (i + 1) ≡ i + 1 + 1 = omega arith in
    ap (input_lines (i + 1)) (drop_at vs i at.0 at.1)
    ∙ ap (λ n. input_line (i + 1) ++ input_lines n (drop (i + 1) vs)) k

pub gates_next : (first : ℕ) (gates : List Gate) (i : ℕ) (g : Gate) → slice_get gates i ≡ Some g
    → gate_lines (first + i) (drop i gates) ≡ gate_line (first + i) g ++ gate_lines (first + (i + 1)) (drop (i + 1) gates)
gates_next first gates i g at =
    let k : suc (first + i) ≡ first + (i + 1) = omega arith in
    ap (gate_lines (first + i)) (drop_at gates i g at)
    ∙ ap (λ n. gate_line (first + i) g ++ gate_lines n (drop (i + 1) gates)) k

pub symbols_next : (letter : List ℕ) (name : ℕ → List ℕ) (vs : List ℕ) (i v : ℕ) → slice_get vs i ≡ Some v
    → symbol_lines letter i (drop i (map name vs))
    ≡ symbol_line letter i (name v) ++ symbol_lines letter (i + 1) (drop (i + 1) (map name vs))
symbols_next letter name vs i v at =
    let k : suc i ≡ i + 1 = omega arith in
    ap (symbol_lines letter i) (drop_at (map name vs) i (name v) (slice_get-map name vs i ∙ ap (option_map name) at))
    ∙ ap (λ n. symbol_line letter i (name v) ++ symbol_lines letter n (drop (i + 1) (map name vs))) k

-- the gates of a circuit, by how many inputs it has and by the list
pub gates_are : (c : Circuit) (count : ℕ) (gates : List Gate) → count ≡ length c.inputs → gates ≡ c.gates
    → gate_lines (count + 1) gates ≡ gate_lines (first_gate c) c.gates
gates_are c count gates a b = let k : length c.inputs + 1 ≡ first_gate c = omega arith in rw (a, b) (ap (λ n. gate_lines n c.gates) k)

-- the symbol table of a circuit, by the lists that it has
pub table_is : (name : ℕ → List ℕ) (c : Circuit) (inputs : List ℕ) (outputs : List (ℕ × Wire)) → inputs ≡ c.inputs → outputs ≡ c.outputs
    → symbol_lines (codes "i") 0 (map name inputs) ++ symbol_lines (codes "o") 0 (map name (map (λ o. o.0) outputs)) ≡ symbol_table name c
table_is name c inputs outputs a b = rw (a, b) refl
