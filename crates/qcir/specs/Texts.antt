-- The canonical text of a formula of gates in QCIR-14 (Jordan, Klieber, Seidl 2016), line by line.
use Rattle.std.specs.Prelude.{ℕ, ◌-◌, List, [], ◌∷◌, ◌++◌, map, slice_get, Option, codes, if◌then◌else◌}
use Rattle.std.specs.List.{flat_map, join_by}
use Rattle.std.specs.Option.{unwrap_or}
use Rattle.qbf_core.specs.declared.quantifier.Quantifier.{Quantifier}
use Rattle.qbf_core.specs.declared.quantifier.Quantifier.TheVariants.{All, Exists}
use Rattle.qbf_core.specs.Blocks.{Block}
use Rattle.qbf_core.specs.Literal.{Literal}
use Rattle.qbf_gates.specs.Gates.{Gate, And, Or, Xor, Ite, inputs_of}
use Rattle.qcir.specs.Names.{Name, Question}

-- the name of a number from 1 on, if there is one
abbrev pub name_at : List Name → ℕ → Option Name
name_at names v = slice_get names (v - 1)

-- the name of a variable or a gate
abbrev pub name_of : List Name → ℕ → Name
name_of names v = unwrap_or (name_at names v) []

-- a literal by its name, after a minus or not
abbrev pub literal_text : List Name → Literal → List ℕ
literal_text names l = if l.negative then codes "-" ++ name_of names l.var else name_of names l.var

-- a word, and items between commas in brackets
abbrev pub call_text : {X : Type 0} → List ℕ → (X → List ℕ) → List X → List ℕ
call_text word item items = word ++ (codes "(" ++ (join_by item (codes ", ") items ++ codes ")"))

-- the word of a quantifier
abbrev pub quantifier_text : Quantifier → List ℕ
quantifier_text All = codes "forall"
quantifier_text Exists = codes "exists"

-- the word of a gate
abbrev pub gate_word : Gate → List ℕ
gate_word (And ls) = codes "and"
gate_word (Or ls) = codes "or"
gate_word (Xor a b) = codes "xor"
gate_word (Ite a b c) = codes "ite"

-- the line of a set of variables: `exists(a, b)`
abbrev pub set_line : List Name → Block → List ℕ
set_line names s = call_text (quantifier_text s.quantifier) (name_of names) s.vars

-- the line of a gate: `g = and(a, -b)`
abbrev pub gate_line : List Name → ℕ × Gate → List ℕ
gate_line names g = name_of names g.0 ++ (codes " = " ++ call_text (gate_word g.1) (literal_text names) (inputs_of g.1))

-- the lines of a formula whose variables stand in these sets: the sets, outermost first, the output, and the gates in their order
abbrev pub lines_of : List Block → Question → List (List ℕ)
lines_of sets q =
    map (set_line q.names) sets
    ++ call_text (codes "output") (literal_text q.names) (q.formula.output ∷ []) ∷ map (gate_line q.names) q.formula.gates

-- the header, and the lines with a set for each block
abbrev pub text : Question → List ℕ
text q = codes "#QCIR-14" ++ 10 ∷ flat_map (λ line. line ++ 10 ∷ []) (lines_of q.formula.blocks q)
