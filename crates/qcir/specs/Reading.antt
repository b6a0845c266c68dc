-- Reading QCIR-14 line by line (Jordan, Klieber, Seidl 2016): for each state in the text a row says which lines go on, and which are a fault.
use Rattle.std.specs.Prelude.{ℕ, ◌+◌, Bool, true, false, ◌&&◌, ◌||◌, List, [], ◌∷◌, ◌++◌, length, Result, Ok, Err}
use Rattle.std.specs.Prelude.{bytes_eq, codes, if◌then◌else◌}
use Rattle.std.specs.List.{list_all, list_any, slice_split}
use Rattle.std.specs.Char.{is_ascii_digit}
use Rattle.qbf_core.specs.declared.quantifier.Quantifier.{Quantifier}
use Rattle.qbf_core.specs.declared.quantifier.Quantifier.TheVariants.{All, Exists}
use Rattle.qbf_core.specs.Literal.{Literal}
use Rattle.qbf_core.specs.Blocks.{blocks_of}
use Rattle.qbf_tokens.specs.Tokens.{is_line_end}
use Rattle.qbf_gates.specs.declared.kind.GateKind.{GateKind}
use Rattle.qbf_gates.specs.declared.kind.GateKind.TheVariants.{Choice, Conjunction, Difference, Disjunction}
use Rattle.qbf_gates.specs.Gates.{Gate}
use Rattle.qbf_gates.specs.Kept.{fits, gate_of}
use Rattle.qcir_tokens.specs.declared.mark.Mark.TheVariants.{Close, Comma, Equals, Hash, Minus, Open}
use Rattle.qcir_tokens.specs.Tokens.{Token, Word, Sign, tokens}
use Rattle.qcir.specs.declared.fault.QuestionFault.{QuestionFault}
use Rattle.qcir.specs.declared.fault.QuestionFault.TheVariants.{Q2, Q3, Q5, Q6, Q7, Q8, Q9, Q12}
use Rattle.qcir.specs.declared.keyword.Keyword.{Keyword}
use Rattle.qcir.specs.declared.keyword.Keyword.TheVariants as words
use Rattle.qcir.specs.Words.{keyword_of}
use Rattle.qcir.specs.Names.{Name, literal_named, with_name}
pub use Rattle.qcir.specs.Names.{Question}

-- the names that are given so far, the variables with their quantifiers, and the gates
pub record PartsSoFar : Type 0 where
  pub names : List Name
  pub pairs : List (Quantifier × ℕ)
  pub gates : List (ℕ × Gate)

-- A state: the place of a line, by what the lines before it say.
pub data State : Type 0 where
  -- after the header and whole sets
  InPrefix : PartsSoFar → State
  -- after the output, the name of which is negated or not, and whole gates
  InGates : PartsSoFar → Bool → Name → State

-- the state with these parts, after the output or not
abbrev pub state_of : Bool → Bool → Name → PartsSoFar → State
state_of true negative w b = InGates b negative w
state_of false negative w b = InPrefix b

-- ---- the header

-- a number, or nothing
abbrev pub is_count : List Token → Bool
is_count [] = true
is_count (Word n ∷ []) = list_all is_ascii_digit n
is_count ts = false

-- the first line: `#QCIR-14` or `#QCIR-G14`, and a number or nothing
abbrev pub is_header : List Token → Bool
is_header (Sign Hash ∷ Word q ∷ Sign Minus ∷ Word v ∷ ts) =
    bytes_eq q (codes "QCIR") && (bytes_eq v (codes "14") || bytes_eq v (codes "G14")) && is_count ts
is_header ts = false

-- ---- a set

-- the variables with one more
abbrev pub bound : Quantifier → PartsSoFar → Result (List Name) QuestionFault → Result PartsSoFar QuestionFault
bound q b (Err f) = Err f
bound q b (Ok names) = Ok (record b { names = names; pairs = b.pairs ++ (q, length b.names + 1) ∷ [] })

-- the variables of a set: names between commas, and `)` at the end of the line
abbrev pub members : Quantifier → Bool → List Token → Result PartsSoFar QuestionFault → Result PartsSoFar QuestionFault
members q next ts (Err f) = Err f
members q true (Word w ∷ ts) (Ok b) = members q false ts (bound q b (with_name b.names w))
members q false (Sign Comma ∷ ts) (Ok b) = members q true ts (Ok b)
members q false (Sign Close ∷ []) (Ok b) = Ok b
members q next ts (Ok b) = Err Q3

abbrev pub set_row : Result PartsSoFar QuestionFault → Result State QuestionFault
set_row (Err f) = Err f
set_row (Ok b) = Ok (InPrefix b)

-- ---- literals

-- one more literal in front
abbrev pub and_literal : Result Literal QuestionFault → Result (List Literal) QuestionFault → Result (List Literal) QuestionFault
and_literal (Err f) rest = Err f
and_literal (Ok l) (Err f) = Err f
and_literal (Ok l) (Ok ls) = Ok (l ∷ ls)

-- literals between commas, and `)` at the end of the line
abbrev pub literals : List Name → Bool → List Token → Result (List Literal) QuestionFault
literals names true (Word w ∷ ts) = and_literal (literal_named names false w) (literals names false ts)
literals names true (Sign Minus ∷ Word w ∷ ts) = and_literal (literal_named names true w) (literals names false ts)
literals names false (Sign Comma ∷ ts) = literals names true ts
literals names false (Sign Close ∷ []) = Ok []
literals names next ts = Err Q3

-- the inputs of a gate: literals, or nothing
abbrev pub inputs : List Name → List Token → Result (List Literal) QuestionFault
inputs names (Sign Close ∷ []) = Ok []
inputs names ts = literals names true ts

-- ---- the output

abbrev pub output_row : PartsSoFar → List Token → Result State QuestionFault
output_row b (Word w ∷ Sign Close ∷ []) = Ok (InGates b false w)
output_row b (Sign Minus ∷ Word w ∷ Sign Close ∷ []) = Ok (InGates b true w)
output_row b ts = Err Q3

-- a line of the prefix, after its first word and `(`
abbrev pub prefix_line : PartsSoFar → Keyword → List Token → Result State QuestionFault
prefix_line b words.Exists ts = set_row (members Exists true ts (Ok b))
prefix_line b words.Forall ts = set_row (members All true ts (Ok b))
prefix_line b words.Output ts = output_row b ts
prefix_line b words.Free ts = Err Q6
prefix_line b word ts = Err Q3

-- a line of the prefix: nothing, a comment, a set or the output
abbrev pub prefix_row : PartsSoFar → List Token → Result State QuestionFault
prefix_row b [] = Ok (InPrefix b)
prefix_row b (Sign Hash ∷ ts) = Ok (InPrefix b)
prefix_row b (Word w ∷ Sign Open ∷ ts) = prefix_line b (keyword_of w) ts
prefix_row b ts = Err Q3

-- ---- a gate

-- the gates with one more
abbrev pub with_gate : PartsSoFar → GateKind → List Literal → Result (List Name) QuestionFault → Result PartsSoFar QuestionFault
with_gate b kind ls (Err f) = Err f
with_gate b kind ls (Ok names) = Ok (record b { names = names; gates = b.gates ++ (length b.names + 1, gate_of kind ls) ∷ [] })

-- the gate of a name, a kind and its inputs
abbrev pub gate : PartsSoFar → Name → GateKind → Result (List Literal) QuestionFault → Result PartsSoFar QuestionFault
gate b w kind (Err f) = Err f
gate b w kind (Ok ls) = if fits kind (length ls) then with_gate b kind ls (with_name b.names w) else Err Q8

-- the kind of gate that a word says
abbrev pub kind_of : Keyword → Result GateKind QuestionFault
kind_of words.And = Ok Conjunction
kind_of words.Or = Ok Disjunction
kind_of words.Xor = Ok Difference
kind_of words.Ite = Ok Choice
kind_of words.Exists = Err Q7
kind_of words.Forall = Err Q7
kind_of word = Err Q3

-- a line of a gate, after its name, `=`, the word of its kind and `(`
abbrev pub gate_line : PartsSoFar → Name → Result GateKind QuestionFault → List Token → Result PartsSoFar QuestionFault
gate_line b w (Err f) ts = Err f
gate_line b w (Ok kind) ts = gate b w kind (inputs b.names ts)

-- a line after the output: nothing, a comment or a gate
abbrev pub gates_row : PartsSoFar → List Token → Result PartsSoFar QuestionFault
gates_row b [] = Ok b
gates_row b (Sign Hash ∷ ts) = Ok b
gates_row b (Word w ∷ Sign Equals ∷ Word k ∷ Sign Open ∷ ts) = gate_line b w (kind_of (keyword_of k)) ts
gates_row b ts = Err Q3

abbrev pub gates_state : Bool → Name → Result PartsSoFar QuestionFault → Result State QuestionFault
gates_state negative w (Err f) = Err f
gates_state negative w (Ok b) = Ok (InGates b negative w)

-- ---- a name that is missing: not given so far

-- the first missing name of literals between commas
abbrev pub first_missing : List Name → Bool → List Token → Name
first_missing names true (Word w ∷ ts) = if list_any (bytes_eq w) names then first_missing names false ts else w
first_missing names true (Sign Minus ∷ Word w ∷ ts) = if list_any (bytes_eq w) names then first_missing names false ts else w
first_missing names false (Sign Comma ∷ ts) = first_missing names true ts
first_missing names next ts = []

-- the first missing input of a gate
abbrev pub missing_input : List Name → List Token → Name
missing_input names (Word w ∷ Sign Equals ∷ Word k ∷ Sign Open ∷ ts) = first_missing names true ts
missing_input names ts = []

-- whether a line gives this name to a gate
abbrev pub gives : Name → List Token → Bool
gives w (Word v ∷ Sign Equals ∷ ts) = bytes_eq v w
gives w ts = false

-- whether one of these lines gives this name to a gate
abbrev pub is_given : Name → List (List ℕ) → Bool
is_given w [] = false
is_given w (line ∷ lines) = gives w (tokens line) || is_given w lines

-- a missing input of a line: Q5 if this line or one of those after it gives its name, and Q12 if none does
abbrev pub missing_fault : List Name → List ℕ → List (List ℕ) → QuestionFault
missing_fault names line lines = if is_given (missing_input names (tokens line)) (line ∷ lines) then Q5 else Q12

-- what a line of a gate leads to, by the lines after it
abbrev pub by_lines : List Name → List ℕ → List (List ℕ) → Result PartsSoFar QuestionFault → Result PartsSoFar QuestionFault
by_lines names line lines (Err Q5) = Err (missing_fault names line lines)
by_lines names line lines r = r

-- ---- the whole

-- the row of each state: what a line leads to, with the lines after it
abbrev pub row : State → List ℕ → List (List ℕ) → Result State QuestionFault
row (InPrefix b) line lines = prefix_row b (tokens line)
row (InGates b negative w) line lines = gates_state negative w (by_lines b.names line lines (gates_row b (tokens line)))

-- the formula with this output, if a line gives it
abbrev pub with_output : PartsSoFar → Result Literal QuestionFault → Result Question QuestionFault
with_output b (Err f) = Err Q12
with_output b (Ok l) =
    Ok (record { names = b.names; formula = record { blocks = blocks_of b.pairs; gates = b.gates; output = l } })

-- what is read at the end
abbrev pub result_at : State → Result Question QuestionFault
result_at (InPrefix b) = Err Q9
result_at (InGates b negative w) = with_output b (literal_named b.names negative w)

-- a fault with its line
abbrev pub on_line : {A : Type 0} → ℕ → Result A QuestionFault → Result A (QuestionFault × ℕ)
on_line n (Ok a) = Ok a
on_line n (Err f) = Err (f, n)

-- the result of reading lines from a state on, after n lines
abbrev pub read_lines : Result State (QuestionFault × ℕ) → ℕ → List (List ℕ) → Result Question (QuestionFault × ℕ)
read_lines (Err e) n lines = Err e
read_lines (Ok s) n [] = on_line n (result_at s)
read_lines (Ok s) n (line ∷ lines) = read_lines (on_line (n + 1) (row s line lines)) (n + 1) lines

-- the state after the header
abbrev pub AtPrefix : State
AtPrefix = InPrefix (record { names = []; pairs = []; gates = [] })

-- the result of reading lines
abbrev pub read_whole : List (List ℕ) → Result Question (QuestionFault × ℕ)
read_whole [] = Err (Q2, 1)
read_whole (line ∷ lines) = if is_header (tokens line) then read_lines (Ok AtPrefix) 1 lines else Err (Q2, 1)

-- the lines of what stands after a line, if there is more
abbrev pub lines_left : Bool → List ℕ → List (List ℕ)
lines_left true text = slice_split is_line_end text
lines_left false text = []

-- The result of reading these bytes: the formula of gates, or the first fault and its line.
abbrev pub read_gates : List ℕ → Result Question (QuestionFault × ℕ)
read_gates bytes = read_whole (slice_split is_line_end bytes)
