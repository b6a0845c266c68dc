-- The rest of the text of a formula of gates, which is still to be written.
use Rattle.std.specs.Prelude.{ℕ, List, [], ◌∷◌, ◌++◌, Option, Some, None, if◌then◌else◌}
use Rattle.std.specs.List.{flat_map, join_by}
use Rattle.qbf_core.specs.declared.quantifier.Quantifier.{Quantifier}
use Rattle.qbf_core.specs.Blocks.{Block, is_quantifier}
use Rattle.qbf_core.specs.Literal.{Literal}
use Rattle.qbf_gates.specs.Gates.{Gate}
use Rattle.qcir.specs.Names.{Name}
use Rattle.qcir.specs.Texts.{gate_line, literal_text, name_of, quantifier_text, set_line}

-- a literal by its name, after a comma and a blank
abbrev pub input_text : List Name → Literal → List ℕ
input_text names l = 44 ∷ 32 ∷ literal_text names l

-- literals in brackets, and the line end
abbrev pub closed_text : List Name → List Literal → List ℕ
closed_text names ls = 40 ∷ (join_by (literal_text names) (44 ∷ 32 ∷ []) ls ++ 41 ∷ 10 ∷ [])

-- the word of a quantifier, and `(`
abbrev pub set_opening : Quantifier → List ℕ
set_opening q = quantifier_text q ++ 40 ∷ []

-- the text before a variable, by the quantifier of the variable before it
abbrev pub opening : Option Quantifier → Quantifier → List ℕ
opening None q = set_opening q
opening (Some r) q = if is_quantifier r q then 44 ∷ 32 ∷ [] else 41 ∷ 10 ∷ set_opening q

-- the lines of blocks
abbrev pub sets_text : List Name → List Block → List ℕ
sets_text names bs = flat_map (λ b. set_line names b ++ 10 ∷ []) bs

-- the text of the blocks that come after a variable: its set goes on if the first block has its quantifier
abbrev pub blocks_rest : List Name → Option Quantifier → List Block → List ℕ
blocks_rest names None bs = sets_text names bs
blocks_rest names (Some q) [] = 41 ∷ 10 ∷ []
blocks_rest names (Some q) (b ∷ bs) =
    if is_quantifier q b.quantifier
    then flat_map (λ v. 44 ∷ 32 ∷ name_of names v) b.vars ++ 41 ∷ 10 ∷ sets_text names bs
    else 41 ∷ 10 ∷ sets_text names (b ∷ bs)

-- the lines of gates
abbrev pub gates_text : List Name → List (ℕ × Gate) → List ℕ
gates_text names gates = flat_map (λ g. gate_line names g ++ 10 ∷ []) gates
