-- What the lines of a text say, as statements: a step between the grammar and the rows of the reader.
use Rattle.std.specs.Prelude.{◌≡◌, ◌⊎◌, ℕ, Bool, true, List, [], ◌∷◌, ◌++◌, map, Result, Ok, Err, codes, if◌then◌else◌}
use Rattle.std.specs.List.{slice_split}
use Rattle.qbf_core.specs.declared.quantifier.Quantifier.{Quantifier}
use Rattle.qbf_core.specs.declared.quantifier.Quantifier.TheVariants.{All, Exists}
use Rattle.qbf_core.specs.Blocks.{Block}
use Rattle.qbf_core.specs.Literal.{Literal}
use Rattle.qbf_gates.specs.declared.kind.GateKind.{GateKind}
use Rattle.qbf_gates.specs.declared.kind.GateKind.TheVariants.{Choice, Conjunction, Difference, Disjunction}
use Rattle.qbf_gates.specs.Gates.{Gate, And, Or, Xor, Ite, inputs_of}
use Rattle.qbf_tokens.specs.Tokens.{is_line_end}
use Rattle.qcir_tokens.specs.declared.mark.Mark.TheVariants.{Close, Comma, Equals, Open}
use Rattle.qcir_tokens.specs.Tokens.{Token, Word, Sign, tokens}
use Rattle.qcir.specs.declared.fault.QuestionFault.{QuestionFault}
use Rattle.qcir.specs.declared.keyword.Keyword.{Keyword}
use Rattle.qcir.specs.declared.keyword.Keyword.TheVariants as words
use Rattle.qcir.specs.Words.{keyword_of}
use Rattle.qcir.specs.Names.{Name, Question, literal_named, with_name}
use Rattle.qcir.specs.Lines.{SaysNothing, signed}
use Rattle.qcir.specs.Reading.{AtPrefix, InGates, InPrefix, PartsSoFar, State, and_literal, bound, gate, is_header, kind_of, result_at}
use Rattle.qcir.specs.Texts.{call_text, name_of, quantifier_text}

-- ---- lines

-- what a line says: a set; the output, negated or not; or a gate with its name, its kind and its inputs, each negated or not
pub data Statement : Type 0 where
  SetOf : Quantifier → List Name → Statement
  OutputOf : Bool → Name → Statement
  GateOf : Name → GateKind → List (Bool × Name) → Statement

-- names that go on after a comma, and `)`
abbrev pub names_tail : List Name → List Token
names_tail [] = Sign Close ∷ []
names_tail (w ∷ ws) = Sign Comma ∷ Word w ∷ names_tail ws

-- literals that go on after a comma, and `)`
abbrev pub literals_tail : List (Bool × Name) → List Token
literals_tail [] = Sign Close ∷ []
literals_tail (m ∷ ms) = Sign Comma ∷ signed m.0 m.1 (literals_tail ms)

-- literals between commas, or none, and `)`
abbrev pub literals_listed : List (Bool × Name) → List Token
literals_listed [] = Sign Close ∷ []
literals_listed (m ∷ ms) = signed m.0 m.1 (literals_tail ms)

-- the word of a quantifier
abbrev pub word_of : Quantifier → Keyword
word_of All = words.Forall
word_of Exists = words.Exists

-- the tokens of a line say this
abbrev pub Says : List Token → Statement → Type 0
Says ts (SetOf q []) = ⊥
Says ts (SetOf q (w ∷ ws)) = (word : Name) × (keyword_of word ≡ word_of q) × (ts ≡ Word word ∷ Sign Open ∷ Word w ∷ names_tail ws)
Says ts (OutputOf negative w) =
    (word : Name) × (keyword_of word ≡ words.Output) × (ts ≡ Word word ∷ Sign Open ∷ signed negative w (Sign Close ∷ []))
Says ts (GateOf w kind ms) =
    (word : Name) × (kind_of (keyword_of word) ≡ Ok kind) × (ts ≡ Word w ∷ Sign Equals ∷ Word word ∷ Sign Open ∷ literals_listed ms)

-- lines say these statements one after the other, and between them nothing
abbrev pub Say : List (List ℕ) → List Statement → Type 0
Say [] [] = Unit {0}
Say [] (st ∷ sts) = ⊥
Say (line ∷ lines) [] = SaysNothing (tokens line) × Say lines []
Say (line ∷ lines) (st ∷ sts) = (SaysNothing (tokens line) × Say lines (st ∷ sts)) ⊎ (Says (tokens line) st × Say lines sts)

-- ---- names

-- one variable more
abbrev pub bind_next : Quantifier → Result PartsSoFar QuestionFault → Name → Result PartsSoFar QuestionFault
bind_next q (Err f) w = Err f
bind_next q (Ok b) w = bound q b (with_name b.names w)

-- the variables of a set
abbrev pub bind_all : Quantifier → Result PartsSoFar QuestionFault → List Name → Result PartsSoFar QuestionFault
bind_all q r [] = r
bind_all q r (w ∷ ws) = bind_all q (bind_next q r w) ws

-- the literals of names that are given
abbrev pub all_named : List Name → List (Bool × Name) → Result (List Literal) QuestionFault
all_named names [] = Ok []
all_named names (m ∷ ms) = and_literal (literal_named names m.0 m.1) (all_named names ms)

-- A statement leads from one state to another: sets come before the output, and gates after it.
abbrev pub Leads : State → Statement → State → Type 0
Leads (InPrefix b) (SetOf q ws) t = (c : PartsSoFar) × (bind_all q (Ok b) ws ≡ Ok c) × (InPrefix c ≡ t)
Leads (InPrefix b) (OutputOf negative w) t = InGates b negative w ≡ t
Leads (InGates b negative v) (GateOf w kind ms) t =
    (c : PartsSoFar) × (gate b w kind (all_named b.names ms) ≡ Ok c) × (InGates c negative v ≡ t)
Leads s st t = ⊥

-- statements lead from one state to another, one after the other
abbrev pub LeadAll : State → List Statement → State → Type 0
LeadAll s [] t = s ≡ t
LeadAll s (st ∷ sts) t = (next : State) × Leads s st next × LeadAll next sts t

-- after the header the lines say statements that lead to the formula of gates
pub record IsStated (bytes : List ℕ) (q : Question) : Type 0 where
  pub first : List ℕ
  pub lines : List (List ℕ)
  pub split : slice_split is_line_end bytes ≡ first ∷ lines
  pub header : is_header (tokens first) ≡ true
  pub statements : List Statement
  pub said : Say lines statements
  pub last : State
  pub lead : LeadAll AtPrefix statements last
  pub result : result_at last ≡ Ok q

-- ---- the statements of a formula, and their lines

-- a literal by its name
abbrev pub by_name : List Name → Literal → Bool × Name
by_name names l = (l.negative, name_of names l.var)

-- variables under one quantifier
abbrev pub block : Quantifier → List ℕ → Block
block q vs = record { quantifier = q; vars = vs }

-- the set of a block
abbrev pub set_of : List Name → Block → Statement
set_of names b = SetOf b.quantifier (map (name_of names) b.vars)

-- the kind of a gate
abbrev pub kind_of_gate : Gate → GateKind
kind_of_gate (And ls) = Conjunction
kind_of_gate (Or ls) = Disjunction
kind_of_gate (Xor a b) = Difference
kind_of_gate (Ite a b c) = Choice

-- the statement of a gate
abbrev pub gate_of_name : List Name → ℕ × Gate → Statement
gate_of_name names g = GateOf (name_of names g.0) (kind_of_gate g.1) (map (by_name names) (inputs_of g.1))

-- the sets, the output, and the gates
abbrev pub statements_of : List Block → Question → List Statement
statements_of sets q =
    map (set_of q.names) sets
    ++ OutputOf q.formula.output.negative (name_of q.names q.formula.output.var) ∷ map (gate_of_name q.names) q.formula.gates

-- a name, after a minus or not
abbrev pub signed_text : Bool × Name → List ℕ
signed_text m = if m.0 then 45 ∷ m.1 else m.1

-- a name by itself
abbrev pub plain : Name → List ℕ
plain w = w

abbrev pub kind_text : GateKind → List ℕ
kind_text Conjunction = codes "and"
kind_text Disjunction = codes "or"
kind_text Difference = codes "xor"
kind_text Choice = codes "ite"

-- the line of a statement
abbrev pub line_of : Statement → List ℕ
line_of (SetOf q ws) = call_text (quantifier_text q) plain ws
line_of (OutputOf negative w) = call_text (codes "output") signed_text ((negative, w) ∷ [])
line_of (GateOf w kind ms) = w ++ (codes " = " ++ call_text (kind_text kind) signed_text ms)
