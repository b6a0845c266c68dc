-- The place of the first fault: the tokens before it are accepted, and the row of their state refuses it.
use Rattle.std.specs.Prelude.{◌≡◌, ◌≤◌, ℕ, false, List, [], ◌∷◌, ◌++◌, map, length, Result}
use Rattle.dimacs_syntax.specs.Cited
use Cited.{AllByRecursion, Block, IsVariable, Token, Lined, number, literal, letter}
use Cited.token
use Cited.word
use Rattle.qbf_text.specs.Rows.{Fails}
use Rattle.dimacs_syntax.specs.Headers.{header_before}
use Rattle.qrp.specs.declared.fault.TraceFault.{TraceFault}
use Rattle.trace_items.specs.declared.item.Header.{Header}
use Rattle.trace_items.specs.declared.item.Item.{Item}
use Rattle.trace_items.specs.Inferences.{Inference, IsLiteral, IsNumber, numbers}
use Rattle.trace_items.specs.Derivations.{Derivation, AreGrammatical, items_of_lists}
use Rattle.qbf_text.specs.WholeTexts as whole_texts
use Rattle.qrp.specs.Grammar.{lists, IsTrace}
use Rattle.qrp.specs.Reading.{Fault, State, InHeader, Between, InSet, InLits, InAnts, AtResult, After, row}
use Rattle.step_index.specs.Numbers.{is_used}

-- whole sets and whole steps with these numbers, before the tokens of an unfinished list
pub record AreLists (ts unfinished : List Token) (ns : List ℕ) : Type 0 where
  pub header : Header
  pub sets : List Block
  pub steps : List Inference
  pub spelled : ts ≡ lists header sets steps ++ unfinished
  pub numbered : numbers steps ≡ ns
  pub grammatical : AreGrammatical sets steps

-- The tokens before a state: an unfinished header, or whole sets and whole steps, and after them nothing, one unfinished list, or `r`.
abbrev pub Spells : List Token → State → Type 0
Spells ts (InHeader here) = ts ≡ header_before word.Qrp here
Spells ts (Between ns) = AreLists ts [] ns
Spells ts (InSet q vs) = AreLists ts (letter q ∷ map number vs) [] × AllByRecursion IsVariable vs
Spells ts (InLits ns n ls) = AreLists ts (number n ∷ map literal ls) ns
    × IsNumber n × (is_used n ns ≡ false) × AllByRecursion IsLiteral ls
Spells ts (InAnts ns n ls ants) = AreLists ts (number n ∷ (map literal ls ++ number 0 ∷ map number ants)) ns
    × IsNumber n × (is_used n ns ≡ false) × AllByRecursion IsLiteral ls × AllByRecursion IsNumber ants × (length ants ≤ 2)
Spells ts (AtResult ns) = AreLists ts (token.Word word.R ∷ []) ns
Spells ts (After i ns) = ⊥

-- the items of the lists that are whole before a state: none while the header is unfinished
abbrev pub whole_before : (ts : List Token) (state : State) → Spells ts state → List Item
whole_before ts (InHeader here) s = []
whole_before ts (Between ns) s = items_of_lists s.header s.sets s.steps
whole_before ts (InSet q vs) s = items_of_lists s.0.header s.0.sets s.0.steps
whole_before ts (InLits ns n ls) s = items_of_lists s.0.header s.0.sets s.0.steps
whole_before ts (InAnts ns n ls ants) s = items_of_lists s.0.header s.0.sets s.0.steps
whole_before ts (AtResult ns) s = items_of_lists s.header s.sets s.steps
whole_before ts (After i ns) s = []

-- The fault stands on this line.
abbrev pub IsFault : List Lined → TraceFault → ℕ → Type 0
IsFault ts fault line = whole_texts.IsFault Spells (λ state t f. row state t ≡ Fails f) ts fault line

-- The result that the tokens read as: the trace that they spell, or the fault that stands.
abbrev pub Reads : List Lined → Result Derivation Fault → Type 0
Reads ts result = whole_texts.Reads IsTrace IsFault ts result
