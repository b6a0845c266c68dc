-- What is read is what the statements of a text lead to.
use Rattle.std.proofs.Common.{◌≡◌, ℕ, ◌+◌, Bool, true, false, List, [], ◌∷◌, ◌⊎◌, inl, inr, Ok, Err, Result, refl, sym, ap, subst, ◌∙◌}
use Rattle.std.specs.List.{slice_split}
use Rattle.std.proofs.lemmas.Bool.{cases_Bool}
use Rattle.qbf_core.specs.declared.quantifier.Quantifier.{Quantifier}
use Rattle.qbf_core.specs.declared.quantifier.Quantifier.TheVariants.{All, Exists}
use Rattle.qbf_core.specs.Literal.{Literal}
use Rattle.qbf_gates.specs.declared.kind.GateKind.{GateKind}
use Rattle.qbf_tokens.specs.Tokens.{is_line_end}
use Rattle.qcir_tokens.specs.declared.mark.Mark.TheVariants.{Close, Comma, Equals, Hash, Minus, Open}
use Rattle.qcir_tokens.specs.Tokens.{Token, Word, Sign, tokens}
use Rattle.qcir.specs.declared.fault.QuestionFault.{QuestionFault}
use Rattle.qcir.specs.declared.keyword.Keyword.{Keyword}
use Rattle.qcir.specs.declared.keyword.Keyword.TheVariants as words
use Rattle.qcir.specs.Words.{keyword_of}
use Rattle.qcir.specs.Names.{Name, literal_named, with_name}
use Rattle.qcir.specs.Lines.{SaysNothing, signed}
use Rattle.qcir.specs.Reading.{AtPrefix, InGates, InPrefix, PartsSoFar, Question, State, and_literal, bound, by_lines, gate, gate_line, gates_row, gates_state}
use Rattle.qcir.specs.Reading.{inputs, is_header, kind_of, literals, members, on_line, output_row, prefix_line, prefix_row, read_gates, read_lines}
use Rattle.qcir.specs.Reading.{read_whole, result_at, row, set_row}
use Rattle.qcir.proofs.Sound.{off_line, read_so}
use Rattle.qcir.proofs.Statements.{GateOf, IsStated, LeadAll, Leads, OutputOf, Say, Says, SetOf, Statement, all_named, bind_all}
use Rattle.qcir.proofs.Statements.{literals_listed, literals_tail, names_tail, word_of}

-- ---- what is spelled is read: names and literals between commas

pub bind_refused : (q : Quantifier) (f : QuestionFault) (ws : List Name) → bind_all q (Err f) ws ≡ Err f
bind_refused q f [] = refl
bind_refused q f (w ∷ ws) = bind_refused q f ws

members_tail : (q : Quantifier) (r : Result PartsSoFar QuestionFault) (ws : List Name) → members q false (names_tail ws) r ≡ bind_all q r ws
members_tail q (Err f) ws = sym (bind_refused q f ws)
members_tail q (Ok b) [] = refl
members_tail q (Ok b) (w ∷ ws) = members_tail q (bound q b (with_name b.names w)) ws

module _ (names : List Name) where
  one_literal : (negative : Bool) (w : Name) (ts : List Token)
      → literals names true (signed negative w ts) ≡ and_literal (literal_named names negative w) (literals names false ts)
  one_literal false w ts = refl
  one_literal true w ts = refl

  literals_rest : (ms : List (Bool × Name)) → literals names false (literals_tail ms) ≡ all_named names ms
  literals_rest [] = refl
  literals_rest (m ∷ ms) =
      one_literal m.0 m.1 (literals_tail ms) ∙ ap (and_literal (literal_named names m.0 m.1)) (literals_rest ms)

  not_empty : (negative : Bool) (w : Name) (ts : List Token) → inputs names (signed negative w ts) ≡ literals names true (signed negative w ts)
  not_empty false w ts = refl
  not_empty true w ts = refl

  inputs_listed : (ms : List (Bool × Name)) → inputs names (literals_listed ms) ≡ all_named names ms
  inputs_listed [] = refl
  inputs_listed (m ∷ ms) =
      not_empty m.0 m.1 (literals_tail ms)
      ∙ (one_literal m.0 m.1 (literals_tail ms) ∙ ap (and_literal (literal_named names m.0 m.1)) (literals_rest ms))

-- ---- and lines

nothing_before : (b : PartsSoFar) (ts : List Token) → SaysNothing ts → prefix_row b ts ≡ Ok (InPrefix b)
nothing_before b [] none = refl
nothing_before b (Sign Hash ∷ ts) none = refl
nothing_before b ts none = absurd none

nothing_after : (b : PartsSoFar) (ts : List Token) → SaysNothing ts → gates_row b ts ≡ Ok b
nothing_after b [] none = refl
nothing_after b (Sign Hash ∷ ts) none = refl
nothing_after b ts none = absurd none

-- a gate that is read here is read whatever comes after it
gate_read : (b c : PartsSoFar) (n : Bool) (v : Name) (line : List ℕ) (lines : List (List ℕ)) → gates_row b (tokens line) ≡ Ok c
    → row (InGates b n v) line lines ≡ Ok (InGates c n v)
gate_read b c n v line lines is = ap (λ r. gates_state n v (by_lines b.names line lines r)) is

nothing_read : (s : State) (line : List ℕ) (lines : List (List ℕ)) → SaysNothing (tokens line) → row s line lines ≡ Ok s
nothing_read (InPrefix b) line lines none = nothing_before b (tokens line) none
nothing_read (InGates b n w) line lines none = gate_read b b n w line lines (nothing_after b (tokens line) none)

output_read : (b : PartsSoFar) (negative : Bool) (w : Name) → output_row b (signed negative w (Sign Close ∷ [])) ≡ Ok (InGates b negative w)
output_read b false w = refl
output_read b true w = refl

set_read : (b : PartsSoFar) (q : Quantifier) (k : Keyword) (ts : List Token) → k ≡ word_of q
    → prefix_line b k ts ≡ set_row (members q true ts (Ok b))
set_read b All k ts is = rw is refl
set_read b Exists k ts is = rw is refl

-- a statement of the prefix
said_before : (b : PartsSoFar) (ts : List Token) (st : Statement) (t : State) → Says ts st → Leads (InPrefix b) st t → prefix_row b ts ≡ Ok t
said_before b ts (SetOf q []) t said lead = absurd said
said_before b ts (SetOf q (w ∷ ws)) t said lead =
    let tokens_are = said.2 in
    rw tokens_are (set_read b q (keyword_of said.0) (Word w ∷ names_tail ws) said.1
    ∙ (ap set_row (members_tail q (bound q b (with_name b.names w)) ws ∙ lead.1) ∙ ap Ok lead.2))
said_before b ts (OutputOf negative w) t said lead =
    let tokens_are = said.2 in
    let word_is = said.1 in
    rw (tokens_are, word_is) (output_read b negative w ∙ ap Ok lead)
said_before b ts (GateOf w kind ms) t said lead = absurd lead

gate_said : (b c : PartsSoFar) (ts : List Token) (w : Name) (kind : GateKind) (ms : List (Bool × Name)) → Says ts (GateOf w kind ms)
    → gate b w kind (all_named b.names ms) ≡ Ok c → gates_row b ts ≡ Ok c
gate_said b c ts w kind ms said is =
    let tokens_are = said.2 in
    let kind_is = said.1 in
    rw (tokens_are, kind_is) (ap (gate b w kind) (inputs_listed b.names ms) ∙ is)

statement_read : (s : State) (line : List ℕ) (lines : List (List ℕ)) (st : Statement) (t : State) → Says (tokens line) st → Leads s st t
    → row s line lines ≡ Ok t
statement_read (InPrefix b) line lines st t said lead = said_before b (tokens line) st t said lead
statement_read (InGates b n v) line lines (SetOf q ws) t said lead = absurd lead
statement_read (InGates b n v) line lines (OutputOf negative w) t said lead = absurd lead
statement_read (InGates b n v) line lines (GateOf w kind ms) t said lead =
    gate_read b lead.0 n v line lines (gate_said b lead.0 (tokens line) w kind ms said lead.1) ∙ ap Ok lead.2

lines_read : (s : State) (n : ℕ) (lines : List (List ℕ)) (sts : List Statement) (t : State) (q : Question) → Say lines sts → LeadAll s sts t
    → result_at t ≡ Ok q → read_lines (Ok s) n lines ≡ Ok q
lines_read s n [] [] t q said lead is = ap (on_line n) (ap result_at lead ∙ is)
lines_read s n [] (st ∷ sts) t q said lead is = absurd said
lines_read s n (line ∷ lines) [] t q said lead is =
    ap (λ r. read_lines (on_line (n + 1) r) (n + 1) lines) (nothing_read s line lines said.0)
    ∙ lines_read s (n + 1) lines [] t q said.1 lead is
lines_read s n (line ∷ lines) (st ∷ sts) t q (inl said) lead is =
    ap (λ r. read_lines (on_line (n + 1) r) (n + 1) lines) (nothing_read s line lines said.0)
    ∙ lines_read s (n + 1) lines (st ∷ sts) t q said.1 lead is
lines_read s n (line ∷ lines) (st ∷ sts) t q (inr said) lead is =
    ap (λ r. read_lines (on_line (n + 1) r) (n + 1) lines) (statement_read s line lines st lead.0 said.0 lead.1)
    ∙ lines_read lead.0 (n + 1) lines sts t q said.1 lead.2 is

pub stated_is_read : (bytes : List ℕ) (q : Question) → IsStated bytes q → read_gates bytes ≡ Ok q
stated_is_read bytes q is =
    let header = is.header in
    ap read_whole is.split ∙ (rw header (lines_read AtPrefix 1 is.lines is.statements is.last q is.said is.lead is.result))

-- ---- what is read is spelled: names and literals between commas

members_inv : (q : Quantifier) (ts : List Token) (r : Result PartsSoFar QuestionFault) (c : PartsSoFar) → members q false ts r ≡ Ok c
    → (ws : List Name) × (ts ≡ names_tail ws) × (bind_all q r ws ≡ Ok c)
members_inv q ts (Err f) c is = absurd cc
members_inv q (Sign Comma ∷ Word w ∷ us) (Ok b) c is =
    let rest = members_inv q us (bound q b (with_name b.names w)) c is in
    (w ∷ rest.0, ap (λ (ts : List Token). Sign Comma ∷ Word w ∷ ts) rest.1, rest.2)
members_inv q (Sign Close ∷ []) (Ok b) c is = ([], refl, is)
members_inv q ts (Ok b) c is = absurd cc

set_inv : (q : Quantifier) (ts : List Token) (b c : PartsSoFar) → members q true ts (Ok b) ≡ Ok c
    → (w : Name) × (ws : List Name) × (ts ≡ Word w ∷ names_tail ws) × (bind_all q (Ok b) (w ∷ ws) ≡ Ok c)
set_inv q (Word w ∷ us) b c is =
    let rest = members_inv q us (bound q b (with_name b.names w)) c is in
    (w, rest.0, ap (λ (ts : List Token). Word w ∷ ts) rest.1, rest.2)
set_inv q ts b c is = absurd cc

and_inv : (r : Result Literal QuestionFault) (rest : Result (List Literal) QuestionFault) (ls : List Literal) → and_literal r rest ≡ Ok ls
    → (ms : List Literal) × (rest ≡ Ok ms)
and_inv (Err f) rest ls is = absurd cc
and_inv (Ok l) (Err f) ls is = absurd cc
and_inv (Ok l) (Ok ms) ls is = (ms, refl)

module _ (names : List Name) where
  literals_inv : (ts : List Token) (ls : List Literal) → literals names false ts ≡ Ok ls → (ms : List (Bool × Name)) × (ts ≡ literals_tail ms)
  literals_inv (Sign Comma ∷ Word w ∷ us) ls is =
      let found = and_inv (literal_named names false w) (literals names false us) ls is in
      let rest = literals_inv us found.0 found.1 in
      ((false, w) ∷ rest.0, ap (λ (ts : List Token). Sign Comma ∷ Word w ∷ ts) rest.1)
  literals_inv (Sign Comma ∷ Sign Minus ∷ Word w ∷ us) ls is =
      let found = and_inv (literal_named names true w) (literals names false us) ls is in
      let rest = literals_inv us found.0 found.1 in
      ((true, w) ∷ rest.0, ap (λ (ts : List Token). Sign Comma ∷ Sign Minus ∷ Word w ∷ ts) rest.1)
  literals_inv (Sign Close ∷ []) ls is = ([], refl)
  literals_inv ts ls is = absurd cc

  inputs_inv : (ts : List Token) (ls : List Literal) → inputs names ts ≡ Ok ls → (ms : List (Bool × Name)) × (ts ≡ literals_listed ms)
  inputs_inv (Word w ∷ us) ls is =
      let found = and_inv (literal_named names false w) (literals names false us) ls is in
      let rest = literals_inv us found.0 found.1 in
      ((false, w) ∷ rest.0, ap (λ (ts : List Token). Word w ∷ ts) rest.1)
  inputs_inv (Sign Minus ∷ Word w ∷ us) ls is =
      let found = and_inv (literal_named names true w) (literals names false us) ls is in
      let rest = literals_inv us found.0 found.1 in
      ((true, w) ∷ rest.0, ap (λ (ts : List Token). Sign Minus ∷ Word w ∷ ts) rest.1)
  inputs_inv (Sign Close ∷ []) ls is = ([], refl)
  inputs_inv ts ls is = absurd cc

-- ---- and lines

-- the line says nothing, or a statement that leads on
IsSaid : State → List Token → State → Type 0
IsSaid s ts t = (SaysNothing ts × (s ≡ t)) ⊎ ((st : Statement) × Says ts st × Leads s st t)

inv_set : (b : PartsSoFar) (q : Quantifier) (word : Name) (ts : List Token) (t : State) → keyword_of word ≡ word_of q
    → set_row (members q true ts (Ok b)) ≡ Ok t → IsSaid (InPrefix b) (Word word ∷ Sign Open ∷ ts) t
unfolding IsSaid
inv_set b q word ts t is set = found (members q true ts (Ok b)) refl set
  where
    found : (r : Result PartsSoFar QuestionFault) → members q true ts (Ok b) ≡ r → set_row r ≡ Ok t
        → (SaysNothing (Word word ∷ Sign Open ∷ ts) × (InPrefix b ≡ t))
        ⊎ ((st : Statement) × Says (Word word ∷ Sign Open ∷ ts) st × Leads (InPrefix b) st t)
    found (Err f) from is_ok = absurd cc
    found (Ok c) from is_ok =
        let parts = set_inv q ts b c from in
        let same : InPrefix c ≡ t = cc in
        inr (SetOf q (parts.0 ∷ parts.1), (word, is, ap (λ (us : List Token). Word word ∷ Sign Open ∷ us) parts.2), (c, parts.3, same))

inv_output : (b : PartsSoFar) (word : Name) (ts : List Token) (t : State) → keyword_of word ≡ words.Output → output_row b ts ≡ Ok t
    → IsSaid (InPrefix b) (Word word ∷ Sign Open ∷ ts) t
unfolding IsSaid
inv_output b word (Word w ∷ Sign Close ∷ []) t is row_is = let same : InGates b false w ≡ t = cc in inr (OutputOf false w, (word, is, refl), same)
inv_output b word (Sign Minus ∷ Word w ∷ Sign Close ∷ []) t is row_is =
    let same : InGates b true w ≡ t = cc in inr (OutputOf true w, (word, is, refl), same)
inv_output b word ts t is row_is = absurd cc

inv_word : (b : PartsSoFar) (word : Name) (k : Keyword) (ts : List Token) (t : State) → keyword_of word ≡ k → prefix_line b k ts ≡ Ok t
    → IsSaid (InPrefix b) (Word word ∷ Sign Open ∷ ts) t
inv_word b word words.Exists ts t is row_is = inv_set b Exists word ts t is row_is
inv_word b word words.Forall ts t is row_is = inv_set b All word ts t is row_is
inv_word b word words.Output ts t is row_is = inv_output b word ts t is row_is
inv_word b word k ts t is row_is = absurd cc

inv_prefix : (b : PartsSoFar) (ts : List Token) (t : State) → prefix_row b ts ≡ Ok t → IsSaid (InPrefix b) ts t
unfolding IsSaid
inv_prefix b [] t is = let same : InPrefix b ≡ t = cc in inl (tt, same)
inv_prefix b (Sign Hash ∷ ts) t is = let same : InPrefix b ≡ t = cc in inl (tt, same)
inv_prefix b (Word w ∷ Sign Open ∷ ts) t is = inv_word b w (keyword_of w) ts t refl is
inv_prefix b ts t is = absurd cc

-- a line after the output says nothing, or a gate
IsGateSaid : PartsSoFar → List Token → PartsSoFar → Type 0
IsGateSaid b ts c =
    (SaysNothing ts × (b ≡ c))
    ⊎ ((w : Name) × (kind : GateKind) × (ms : List (Bool × Name)) × Says ts (GateOf w kind ms) × (gate b w kind (all_named b.names ms) ≡ Ok c))

inv_gate : (b : PartsSoFar) (w word : Name) (kind : GateKind) (ts : List Token) (r : Result (List Literal) QuestionFault) (c : PartsSoFar)
    → kind_of (keyword_of word) ≡ Ok kind → inputs b.names ts ≡ r → gate b w kind r ≡ Ok c
    → IsGateSaid b (Word w ∷ Sign Equals ∷ Word word ∷ Sign Open ∷ ts) c
unfolding IsGateSaid
inv_gate b w word kind ts (Err f) c is from made = absurd cc
inv_gate b w word kind ts (Ok ls) c is from made =
    let found = inputs_inv b.names ts ls from in
    let named : all_named b.names found.0 ≡ Ok ls =
    sym (inputs_listed b.names found.0) ∙ (ap (inputs b.names) (sym found.1) ∙ from) in
    inr (
      w,
      kind,
      found.0,
      (word, is, ap (λ (us : List Token). Word w ∷ Sign Equals ∷ Word word ∷ Sign Open ∷ us) found.1),
      ap (gate b w kind) named ∙ made,
    )

inv_kind : (b : PartsSoFar) (w word : Name) (k : Result GateKind QuestionFault) (ts : List Token) (c : PartsSoFar)
    → kind_of (keyword_of word) ≡ k → gate_line b w k ts ≡ Ok c → IsGateSaid b (Word w ∷ Sign Equals ∷ Word word ∷ Sign Open ∷ ts) c
inv_kind b w word (Err f) ts c is line = absurd cc
inv_kind b w word (Ok kind) ts c is line = inv_gate b w word kind ts (inputs b.names ts) c is refl line

inv_gates : (b : PartsSoFar) (ts : List Token) (c : PartsSoFar) → gates_row b ts ≡ Ok c → IsGateSaid b ts c
unfolding IsGateSaid
inv_gates b [] c is = let same : b ≡ c = cc in inl (tt, same)
inv_gates b (Sign Hash ∷ ts) c is = let same : b ≡ c = cc in inl (tt, same)
inv_gates b (Word w ∷ Sign Equals ∷ Word k ∷ Sign Open ∷ ts) c is = inv_kind b w k (kind_of (keyword_of k)) ts c refl is
inv_gates b ts c is = absurd cc

inv_after : (b : PartsSoFar) (n : Bool) (v : Name) (ts : List Token) (r : Result PartsSoFar QuestionFault) (t : State)
    → ((c : PartsSoFar) → r ≡ Ok c → IsGateSaid b ts c) → gates_state n v r ≡ Ok t → IsSaid (InGates b n v) ts t
unfolding IsGateSaid IsSaid
inv_after b n v ts (Err f) t said is = absurd cc
inv_after b n v ts (Ok c) t said is =
    let same : InGates c n v ≡ t = cc in
    elim (said c refl) [
      | inl none ↦ inl (none.0, ap (λ (d : PartsSoFar). InGates d n v) none.1 ∙ same)
      | inr some ↦ inr (GateOf some.0 some.1 some.2, some.3, (c, some.4, same))
    ]

inv_row : (s : State) (line : List ℕ) (lines : List (List ℕ)) (t : State) → row s line lines ≡ Ok t → IsSaid s (tokens line) t
inv_row (InPrefix b) line lines t is = inv_prefix b (tokens line) t is
inv_row (InGates b n v) line lines t is =
    let here = gates_row b (tokens line) in
    inv_after b n v (tokens line) (by_lines b.names line lines here) t
    (λ c e. inv_gates b (tokens line) c (read_so b.names line lines here c e)) is

-- ---- the whole

record AreSaid (s : State) (lines : List (List ℕ)) (q : Question) : Type 0 where
  statements : List Statement
  said : Say lines statements
  last : State
  lead : LeadAll s statements last
  result : result_at last ≡ Ok q

pub silent : (line : List ℕ) (lines : List (List ℕ)) (sts : List Statement) → SaysNothing (tokens line) → Say lines sts → Say (line ∷ lines) sts
silent line lines [] none said = (none, said)
silent line lines (st ∷ sts) none said = inl (none, said)

one_more : (s next : State) (line : List ℕ) (lines : List (List ℕ)) (q : Question) → IsSaid s (tokens line) next → AreSaid next lines q
    → AreSaid s (line ∷ lines) q
unfolding IsSaid
one_more s next line lines q (inl none) rest = record {
  statements = rest.statements;
  said = silent line lines rest.statements none.0 rest.said;
  last = rest.last;
  lead = subst (λ (u : State). LeadAll u rest.statements rest.last) (sym none.1) rest.lead;
  result = rest.result;
}
one_more s next line lines q (inr some) rest = record {
  statements = some.0 ∷ rest.statements;
  said = inr (some.1, rest.said);
  last = rest.last;
  lead = (next, some.2, rest.lead);
  result = rest.result;
}

lines_inv : (r : Result State (QuestionFault × ℕ)) (n : ℕ) (lines : List (List ℕ)) (q : Question) → read_lines r n lines ≡ Ok q
    → (s : State) × (r ≡ Ok s) × AreSaid s lines q
lines_inv (Err e) n lines q is = absurd cc
lines_inv (Ok s) n [] q is =
    (s, refl, record { statements = []; said = tt; last = s; lead = refl; result = off_line n (result_at s) q is })
lines_inv (Ok s) n (line ∷ lines) q is =
    let rest = lines_inv (on_line (n + 1) (row s line lines)) (n + 1) lines q is in
    let step = off_line (n + 1) (row s line lines) rest.0 rest.1 in
    (s, refl, one_more s rest.0 line lines q (inv_row s line lines rest.0 step) rest.2)

whole : (bytes first : List ℕ) (lines : List (List ℕ)) (q : Question) (r : Result State (QuestionFault × ℕ))
    → slice_split is_line_end bytes ≡ first ∷ lines → is_header (tokens first) ≡ true → r ≡ Ok AtPrefix
    → (s : State) × (r ≡ Ok s) × AreSaid s lines q → IsStated bytes q
whole bytes first lines q r split header start found =
    let same : found.0 ≡ AtPrefix = cc (found.1) in
    let said = found.2 in
    record {
      first = first;
      lines = lines;
      split = split;
      header = header;
      statements = said.statements;
      said = said.said;
      last = said.last;
      lead = subst (λ (u : State). LeadAll u said.statements said.last) same said.lead;
      result = said.result;
    }

whole_inv : (bytes : List ℕ) (lines : List (List ℕ)) (q : Question) → slice_split is_line_end bytes ≡ lines → read_whole lines ≡ Ok q
    → IsStated bytes q
whole_inv bytes [] q split is = absurd cc
whole_inv bytes (first ∷ lines) q split is =
    elim (cases_Bool (is_header (tokens first))) [
      | inl e ↦ (let read = rw e at is in whole bytes first lines q (Ok AtPrefix) split e refl (lines_inv (Ok AtPrefix) 1 lines q read))
      | inr e ↦ (let none = rw e at is in absurd cc)
    ]

pub read_is_stated : (bytes : List ℕ) (q : Question) → read_gates bytes ≡ Ok q → IsStated bytes q
read_is_stated bytes q is = whole_inv bytes (slice_split is_line_end bytes) q refl is
