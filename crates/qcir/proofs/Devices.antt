-- No bytes read as that a source failed.
use Rattle.std.proofs.Common.{◌≡◌, ap, inl, inr, ℕ, ◌+◌, nat_lt, Bool, true, false, List, [], ◌∷◌, length, bytes_eq, position, Option, Some, None, Result, Ok, Err}
use Rattle.std.proofs.lemmas.Bool.{cases_Bool}
use Rattle.std.specs.List.{list_any, slice_split}
use Rattle.qbf_core.specs.Literal.{Literal}
use Rattle.qbf_core.specs.declared.quantifier.Quantifier.{Quantifier}
use Rattle.qbf_core.specs.declared.quantifier.Quantifier.TheVariants.{All, Exists}
use Rattle.qbf_gates.specs.Kept.{fits}
use Rattle.qbf_gates.specs.declared.kind.GateKind.{GateKind}
use Rattle.qbf_gates.specs.declared.kind.GateKind.TheVariants.{Choice, Conjunction, Difference, Disjunction}
use Rattle.qbf_tokens.specs.Tokens.{is_line_end}
use Rattle.qcir_tokens.specs.Tokens.{Token, Word, Sign, tokens}
use Rattle.qcir_tokens.specs.declared.mark.Mark.TheVariants.{Close, Comma, Equals, Hash, Minus, Open}
use Rattle.qcir.specs.declared.fault.QuestionFault.{QuestionFault}
use Rattle.qcir.specs.declared.fault.QuestionFault.TheVariants.{Q1, Q2, Q5}
use Rattle.qcir.specs.declared.keyword.Keyword.{Keyword}
use Rattle.qcir.specs.declared.keyword.Keyword.TheVariants as words
use Rattle.qcir.specs.Names.{Name, literal_at, literal_named, with_name}
use Rattle.qcir.specs.Words.{keyword_of}
use Rattle.qcir.specs.Reading.{AtPrefix, InGates, InPrefix, PartsSoFar, State, and_literal, bound, by_lines, gate, gate_line, gates_row, gates_state}
use Rattle.qcir.specs.Reading.{inputs, is_given, is_header, kind_of, literals, members, missing_fault, missing_input, on_line, output_row, prefix_line, prefix_row}
use Rattle.qcir.specs.Reading.{read_gates, read_lines, read_whole, result_at, row, set_row, with_gate, with_output}

-- the fault is not that a source failed
IsOfText : {A : Type 0} → Result A QuestionFault → Type 0
IsOfText r = r ≡ Err Q1 → ⊥

name_text : (names : List Name) (w : Name) → IsOfText (with_name names w)
unfolding IsOfText
name_text names w is = elim (cases_Bool (nat_lt (length names) 2147483647)) [
  | inl few ↦ (let e = rw few at is in elim (cases_Bool (list_any (bytes_eq w) names)) [
    | inl there ↦ (let f = rw there at e in absurd cc)
    | inr new ↦ (let f = rw new at e in absurd cc)
  ])
  | inr full ↦ (let e = rw full at is in absurd cc)
]

bound_text : (q : Quantifier) (b : PartsSoFar) (r : Result (List Name) QuestionFault) → IsOfText r → IsOfText (bound q b r)
unfolding IsOfText
bound_text q b (Err f) text is = text cc
bound_text q b (Ok names) text is = absurd cc

members_text : (q : Quantifier) (next : Bool) (ts : List Token) (r : Result PartsSoFar QuestionFault) → IsOfText r → IsOfText (members q next ts r)
unfolding IsOfText
members_text q next ts (Err f) text is = text is
members_text q true (Word w ∷ ts) (Ok b) text is =
    members_text q false ts (bound q b (with_name b.names w)) (bound_text q b (with_name b.names w) (name_text b.names w)) is
members_text q false (Sign Comma ∷ ts) (Ok b) text is = members_text q true ts (Ok b) text is
members_text q false (Sign Close ∷ []) (Ok b) text is = text is
members_text q next ts (Ok b) text is = absurd cc

set_text : (r : Result PartsSoFar QuestionFault) → IsOfText r → IsOfText (set_row r)
unfolding IsOfText
set_text (Err f) text is = text cc
set_text (Ok b) text is = absurd cc

named_text : (negative : Bool) (place : Option ℕ) → IsOfText (literal_at negative place)
unfolding IsOfText
named_text negative None is = absurd cc
named_text negative (Some n) is = absurd cc

both_text : (r : Result Literal QuestionFault) (rest : Result (List Literal) QuestionFault) → IsOfText r → IsOfText rest
    → IsOfText (and_literal r rest)
unfolding IsOfText
both_text (Err f) rest one more is = one cc
both_text (Ok l) (Err f) one more is = more is
both_text (Ok l) (Ok ls) one more is = absurd cc

literals_text : (names : List Name) (next : Bool) (ts : List Token) → IsOfText (literals names next ts)
unfolding IsOfText
literals_text names true (Word w ∷ ts) is =
    both_text (literal_named names false w) (literals names false ts) (named_text false (position (bytes_eq w) names))
    (literals_text names false ts) is
literals_text names true (Sign Minus ∷ Word w ∷ ts) is =
    both_text (literal_named names true w) (literals names false ts) (named_text true (position (bytes_eq w) names))
    (literals_text names false ts) is
literals_text names false (Sign Comma ∷ ts) is = literals_text names true ts is
literals_text names false (Sign Close ∷ []) is = absurd cc
literals_text names next ts is = absurd cc

inputs_text : (names : List Name) (ts : List Token) → IsOfText (inputs names ts)
unfolding IsOfText
inputs_text names (Sign Close ∷ []) is = absurd cc
inputs_text names ts is = literals_text names true ts is

output_text : (b : PartsSoFar) (ts : List Token) → IsOfText (output_row b ts)
unfolding IsOfText
output_text b (Word w ∷ Sign Close ∷ []) is = absurd cc
output_text b (Sign Minus ∷ Word w ∷ Sign Close ∷ []) is = absurd cc
output_text b ts is = absurd cc

prefix_line_text : (b : PartsSoFar) (word : Keyword) (ts : List Token) → IsOfText (prefix_line b word ts)
unfolding IsOfText
prefix_line_text b words.Exists ts is =
    set_text (members Exists true ts (Ok b)) (members_text Exists true ts (Ok b) (λ e. absurd (cc e))) is
prefix_line_text b words.Forall ts is =
    set_text (members All true ts (Ok b)) (members_text All true ts (Ok b) (λ e. absurd (cc e))) is
prefix_line_text b words.Output ts is = output_text b ts is
prefix_line_text b word ts is = absurd cc

prefix_text : (b : PartsSoFar) (ts : List Token) → IsOfText (prefix_row b ts)
unfolding IsOfText
prefix_text b [] is = absurd cc
prefix_text b (Sign Hash ∷ ts) is = absurd cc
prefix_text b (Word w ∷ Sign Open ∷ ts) is = prefix_line_text b (keyword_of w) ts is
prefix_text b ts is = absurd cc

with_gate_text : (b : PartsSoFar) (kind : GateKind) (ls : List Literal) (r : Result (List Name) QuestionFault) → IsOfText r
    → IsOfText (with_gate b kind ls r)
unfolding IsOfText
with_gate_text b kind ls (Err f) text is = text cc
with_gate_text b kind ls (Ok names) text is = absurd cc

gate_text : (b : PartsSoFar) (w : Name) (kind : GateKind) (r : Result (List Literal) QuestionFault) → IsOfText r → IsOfText (gate b w kind r)
unfolding IsOfText
gate_text b w kind (Err f) text is = text cc
gate_text b w kind (Ok ls) text is = elim (cases_Bool (fits kind (length ls))) [
  | inl e ↦ with_gate_text b kind ls (with_name b.names w) (name_text b.names w) (rw e at is)
  | inr e ↦ (let refused = rw e at is in absurd cc)
]

line_text : (b : PartsSoFar) (w : Name) (word : Keyword) (ts : List Token) → IsOfText (gate_line b w (kind_of word) ts)
unfolding IsOfText
line_text b w words.And ts is = gate_text b w Conjunction (inputs b.names ts) (inputs_text b.names ts) is
line_text b w words.Or ts is = gate_text b w Disjunction (inputs b.names ts) (inputs_text b.names ts) is
line_text b w words.Xor ts is = gate_text b w Difference (inputs b.names ts) (inputs_text b.names ts) is
line_text b w words.Ite ts is = gate_text b w Choice (inputs b.names ts) (inputs_text b.names ts) is
line_text b w words.Exists ts is = absurd cc
line_text b w words.Forall ts is = absurd cc
line_text b w word ts is = absurd cc

gates_text : (b : PartsSoFar) (ts : List Token) → IsOfText (gates_row b ts)
unfolding IsOfText
gates_text b [] is = absurd cc
gates_text b (Sign Hash ∷ ts) is = absurd cc
gates_text b (Word w ∷ Sign Equals ∷ Word k ∷ Sign Open ∷ ts) is = line_text b w (keyword_of k) ts is
gates_text b ts is = absurd cc

state_text : (negative : Bool) (w : Name) (r : Result PartsSoFar QuestionFault) → IsOfText r → IsOfText (gates_state negative w r)
unfolding IsOfText
state_text negative w (Err f) text is = text cc
state_text negative w (Ok b) text is = absurd cc

missing_text : (names : List Name) (line : List ℕ) (lines : List (List ℕ)) → missing_fault names line lines ≡ Q1 → ⊥
missing_text names line lines is = elim (cases_Bool (is_given (missing_input names (tokens line)) (line ∷ lines))) [
  | inl e ↦ (let given = rw e at is in absurd (cc given))
  | inr e ↦ (let none = rw e at is in absurd (cc none))
]

by_lines_text : (names : List Name) (line : List ℕ) (lines : List (List ℕ)) (r : Result PartsSoFar QuestionFault) → IsOfText r
    → IsOfText (by_lines names line lines r)
unfolding IsOfText
by_lines_text names line lines (Ok b) text is = absurd cc
by_lines_text names line lines (Err Q5) text is = missing_text names line lines (cc is)
by_lines_text names line lines (Err f) text is = text is

row_text : (s : State) (line : List ℕ) (lines : List (List ℕ)) → IsOfText (row s line lines)
unfolding IsOfText
row_text (InPrefix b) line lines is = prefix_text b (tokens line) is
row_text (InGates b negative w) line lines is =
    let here = gates_row b (tokens line) in
    state_text negative w (by_lines b.names line lines here) (by_lines_text b.names line lines here (gates_text b (tokens line))) is

-- ---- the whole

output_of_text : (b : PartsSoFar) (r : Result Literal QuestionFault) → IsOfText (with_output b r)
unfolding IsOfText
output_of_text b (Err f) is = absurd cc
output_of_text b (Ok l) is = absurd cc

end_text : (s : State) → IsOfText (result_at s)
unfolding IsOfText
end_text (InPrefix b) is = absurd cc
end_text (InGates b negative w) is = output_of_text b (literal_named b.names negative w) is

-- the fault with its line is not that a source failed
IsLinedText : {A : Type 0} → Result A (QuestionFault × ℕ) → Type 0
IsLinedText r = (n : ℕ) → r ≡ Err (Q1, n) → ⊥

first_same : (f : QuestionFault) (n m : ℕ) → ◌≡◌ {A = QuestionFault × ℕ} (f, n) (Q1, m) → f ≡ Q1
first_same f n m same = ap (λ (p : QuestionFault × ℕ). p.0) same

lined_text : {A : Type 0} (n : ℕ) (r : Result A QuestionFault) → IsOfText r → IsLinedText (on_line n r)
unfolding IsOfText IsLinedText
lined_text n (Ok a) text m is = absurd cc
lined_text n (Err f) text m is =
    let same : ◌≡◌ {A = QuestionFault × ℕ} (f, n) (Q1, m) = cc is in text (ap (λ (g : QuestionFault). Err g) (first_same f n m same))

lines_text : (r : Result State (QuestionFault × ℕ)) (n : ℕ) (lines : List (List ℕ)) → IsLinedText r → IsLinedText (read_lines r n lines)
unfolding IsLinedText
lines_text (Err e) n lines text m is = text m cc
lines_text (Ok s) n [] text m is = lined_text n (result_at s) (end_text s) m is
lines_text (Ok s) n (line ∷ lines) text m is =
    lines_text (on_line (n + 1) (row s line lines)) (n + 1) lines (lined_text (n + 1) (row s line lines) (row_text s line lines)) m is

not_first : (m : ℕ) → ◌≡◌ {A = QuestionFault × ℕ} (Q2, 1) (Q1, m) → ⊥
not_first m same = let fault = first_same Q2 1 m same in absurd (cc fault)

whole_text : (lines : List (List ℕ)) → IsLinedText (read_whole lines)
unfolding IsLinedText
whole_text [] m is = not_first m (cc is)
whole_text (line ∷ lines) m is = elim (cases_Bool (is_header (tokens line))) [
  | inl e ↦ (let read = rw e at is in lines_text (Ok AtPrefix) 1 lines (λ k none. absurd (cc none)) m read)
  | inr e ↦ (let refused = rw e at is in not_first m (cc refused))
]

pub reads_no_device : (bytes : List ℕ) (n : ℕ) → read_gates bytes ≡ Err (Q1, n) → ⊥
unfolding IsLinedText
reads_no_device bytes n is = whole_text (slice_split is_line_end bytes) n is
