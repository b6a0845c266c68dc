-- What is read is what the grammar says.
use Rattle.std.proofs.Common.{arith, ◌≡◌, ◌≢◌, ℕ, ◌+◌, ◌<◌, ◌≤◌, true, false, List, [], ◌∷◌, ◌++◌, length, map, filter, refl, sym, ap, subst, ◌∙◌, inl, Ok}
use Rattle.std.proofs.Common.{inr}
use Rattle.std.specs.Prelude.{codes}
use Rattle.std.specs.List.{AllByRecursion, flat_map, join_by, onto_first, range_with_len, slice_split}
use Rattle.std.proofs.lemmas.Bool.{cases_Bool}
use Rattle.std.proofs.lemmas.List.{map-append}
use Rattle.std.proofs.lemmas.List.Folds.{flat_map-map}
use Rattle.std.proofs.lemmas.List.Splits.{slice_split-cons_no, slice_split-cons_yes}
use Rattle.qbf_core.specs.declared.quantifier.Quantifier.{Quantifier}
use Rattle.qbf_core.specs.Literal.{Literal}
use Rattle.qbf_core.specs.Members.{◌∈◌}
use Rattle.qbf_core.specs.Blocks.{Alternates, Block, blocks_of, pairs, variables}
use Rattle.qbf_core.proofs.BlockLaws.{Alternates-blocks_of, blocks_of-pairs, pairs-blocks_of}
use Rattle.qbf_gates.specs.Gates.{Gate, And, Or, Xor, Ite, IsWellFormed, gate_names, inputs_of, names}
use Rattle.qbf_tokens.proofs.CanonicalTokens.{all_appended}
use Rattle.qbf_tokens.specs.Tokens.{is_line_end}
use Rattle.qcir_tokens.specs.Tokens.{is_word_byte, runs}
use Rattle.qcir_tokens.proofs.Runs.{IsWord}
use Rattle.qcir.specs.Grammar.{IsHeader, IsQuestion, says_something}
use Rattle.qcir.specs.Laws.{ReadsBack, ReadsQuestions}
use Rattle.qcir.specs.Names.{Name, Question}
use Rattle.qcir.specs.Reading.{read_gates}
use Rattle.qcir.specs.Texts.{gate_line, gate_word, lines_of, name_of, quantifier_text, set_line, text}
use Rattle.qcir.proofs.GivenNames.{names_given}
use Rattle.qcir.proofs.NamesByNumbers.{name_is}
use Rattle.qcir.proofs.Numbers.{IsUpTo}
use Rattle.qcir.proofs.Ranges.{in_range, of_range, order_below, parts_of_range, range_within}
use Rattle.qcir.proofs.ReadStatements.{read_is_stated, stated_is_read}
use Rattle.qcir.proofs.SaidLines.{all_said, first_and_rest, header_is, is_header_of, lines_said, said_lines}
use Rattle.qcir.proofs.Sound.{front_of, reads_well_formed, rest_of}
use Rattle.qcir.proofs.SpelledParts.{statements_lead}
use Rattle.qcir.proofs.StatedParts.{statements_are}
use Rattle.qcir.proofs.Statements.{IsStated, OutputOf, Statement, by_name, gate_of_name, kind_of_gate, kind_text, line_of, plain, set_of}
use Rattle.qcir.proofs.Statements.{signed_text, statements_of}
use Rattle.qcir.proofs.WrittenLines.{header_before, lines_are, lines_inside}
use Rattle.qcir.proofs.WrittenTokens.{HasNames, lines_named}

-- ---- the lines of a formula are those of its statements

join_map : {X Y : Type 0} (item : Y → List ℕ) (f : X → Y) (xs : List X)
    → join_by item (44 ∷ 32 ∷ []) (map f xs) ≡ join_by (λ x. item (f x)) (44 ∷ 32 ∷ []) xs
join_map item f [] = refl
join_map item f (x ∷ xs) =
    ap (λ (rest : List ℕ). item (f x) ++ rest) (flat_map-map (λ y. 44 ∷ 32 ∷ item y) f xs)

set_same : (names : List Name) (s : Block) → line_of (set_of names s) ≡ set_line names s
set_same names s =
    ap (λ (items : List ℕ). quantifier_text s.quantifier ++ (40 ∷ (items ++ 41 ∷ []))) (join_map plain (name_of names) s.vars)

word_same : (g : Gate) → kind_text (kind_of_gate g) ≡ gate_word g
word_same (And ls) = refl
word_same (Or ls) = refl
word_same (Xor a b) = refl
word_same (Ite a b c) = refl

gate_same : (names : List Name) (g : ℕ × Gate) → line_of (gate_of_name names g) ≡ gate_line names g
gate_same names g =
    let F : List ℕ → List ℕ → List ℕ = λ word items. name_of names g.0 ++ (32 ∷ 61 ∷ 32 ∷ (word ++ (40 ∷ (items ++ 41 ∷ [])))) in
    ap (λ (word : List ℕ). F word (join_by signed_text (44 ∷ 32 ∷ []) (map (by_name names) (inputs_of g.1)))) (word_same g.1)
    ∙ ap (F (gate_word g.1)) (join_map signed_text (by_name names) (inputs_of g.1))

map_both : {X : Type 0} (to : X → Statement) (line : X → List ℕ) (xs : List X) → ((x : X) → line_of (to x) ≡ line x)
    → map line_of (map to xs) ≡ map line xs
map_both to line [] same = refl
map_both to line (x ∷ xs) same =
    ap (λ (l : List ℕ). l ∷ map line_of (map to xs)) (same x) ∙ ap (λ (ls : List (List ℕ)). line x ∷ ls) (map_both to line xs same)

pub lines_same : (sets : List Block) (q : Question) → map line_of (statements_of sets q) ≡ lines_of sets q
lines_same sets q =
    let output = OutputOf q.formula.output.negative (name_of q.names q.formula.output.var) in
    let gates = map (gate_of_name q.names) q.formula.gates in
    map-append line_of (map (set_of q.names) sets) (output ∷ gates)
    ∙ (ap (λ (ls : List (List ℕ)). ls ++ line_of output ∷ map line_of gates) (map_both (set_of q.names) (set_line q.names) sets (set_same q.names))
    ∙ ap (λ (ls : List (List ℕ)). map (set_line q.names) sets ++ line_of output ∷ ls)
    (map_both (gate_of_name q.names) (gate_line q.names) q.formula.gates (gate_same q.names)))

-- ---- words

word_parts : (w : Name) → IsWord w → (w ≢ []) × AllByRecursion (λ b. is_word_byte b ≡ true) w
word_parts [] word = absurd word
word_parts (b ∷ bs) word = ((λ none. absurd (cc none)), word)

word_whole : (w : Name) → (w ≢ []) × AllByRecursion (λ b. is_word_byte b ≡ true) w → IsWord w
word_whole [] parts = absurd (parts.0 refl)
word_whole (b ∷ bs) parts = parts.1

all_parts : (ws : List Name) → AllByRecursion IsWord ws → AllByRecursion (λ w. (w ≢ []) × AllByRecursion (λ b. is_word_byte b ≡ true) w) ws
all_parts [] all = tt
all_parts (w ∷ ws) all = (word_parts w all.0, all_parts ws all.1)

pub all_words : (ws : List Name) → AllByRecursion (λ w. (w ≢ []) × AllByRecursion (λ b. is_word_byte b ≡ true) w) ws → AllByRecursion IsWord ws
all_words [] all = tt
all_words (w ∷ ws) all = (word_whole w all.0, all_words ws all.1)

-- ---- what is read is spelled

-- the numbers of the variables of sets, and of gates
by_sets : (sets : List Block) (q : Question) → q.formula.blocks ≡ blocks_of (pairs sets) → names q.formula ≡ range_with_len 1 (length q.names)
    → variables (pairs sets) ++ gate_names q.formula.gates ≡ range_with_len 1 (length q.names)
by_sets sets q blocks numbered =
    let same : pairs q.formula.blocks ≡ pairs sets = ap pairs blocks ∙ pairs-blocks_of (pairs sets) in
    ap (λ (ps : List (Quantifier × ℕ)). variables ps ++ gate_names q.formula.gates) (sym same) ∙ numbered

-- inputs are of names before their gate
in_order : (q : Question) → IsWellFormed q.formula → names q.formula ≡ range_with_len 1 (length q.names)
    → AllByRecursion (λ g. AllByRecursion (λ l. (1 ≤ l.var) × (l.var < g.0)) (inputs_of g.1)) q.formula.gates
in_order q formed numbered =
    let vs = variables (pairs q.formula.blocks) in
    let parts = parts_of_range vs (gate_names q.formula.gates) 1 (length q.names) numbered in
    let many : length (gate_names q.formula.gates) ≡ length q.formula.gates = count q.formula.gates in
    order_below vs q.formula.gates (1 + length vs) (omega arith)
    (λ v h. in_range 1 (length vs) v (subst (λ (ks : List ℕ). v ∈ ks) parts.0 h))
    (parts.1 ∙ ap (range_with_len (1 + length vs)) many) formed.order
  where
    count : (gates : List (ℕ × Gate)) → length (gate_names gates) ≡ length gates
    count [] = refl
    count (g ∷ gates) = let rest = count gates in omega (arith, rest)

read_is_spelled : (bytes : List ℕ) (q : Question) → read_gates bytes ≡ Ok q → IsQuestion bytes q
read_is_spelled bytes q read =
    let is = read_is_stated bytes q read in
    let of = statements_are is.statements is.last q (lines_named is.lines is.statements is.said) is.lead is.result in
    let given = names_given bytes q is in
    let sound = reads_well_formed bytes q read in
    let split = first_and_rest bytes is.first is.lines is.split in
    record {
      header = subst IsHeader (sym split.0) (is_header_of is.first is.header);
      sets = of.sets;
      filled = of.filled;
      blocks = of.blocks;
      said = split.1
          ∙ (said_lines is.lines is.statements is.said
          ∙ (ap (λ (sts : List Statement). map runs (map line_of sts)) of.same ∙ ap (map runs) (lines_same of.sets q)));
      words = all_parts q.names given.words;
      distinct = given.distinct;
      few = given.few;
      numbered = sound.1;
      order = in_order q sound.0 sound.1;
      output = of_range (names q.formula) q.formula.output (length q.names) sound.1 sound.0.output;
    }

-- ---- the names of statements

module _ (ns : List Name) (words : AllByRecursion IsWord ns) where
  all_good : (vs : List ℕ) → AllByRecursion (IsUpTo (length ns)) vs → AllByRecursion IsWord (map (name_of ns) vs)
  all_good [] all = tt
  all_good (v ∷ vs) all = (name_is ns v words all.0, all_good vs all.1)

  own_first : (q : Quantifier) (vs : List ℕ) (ps : List (Quantifier × ℕ)) → AllByRecursion (IsUpTo (length ns)) (variables (map (λ v. (q, v)) vs ++ ps))
      → AllByRecursion (IsUpTo (length ns)) vs × AllByRecursion (IsUpTo (length ns)) (variables ps)
  own_first q [] ps all = (tt, all)
  own_first q (v ∷ vs) ps all = let rest = own_first q vs ps all.1 in ((all.0, rest.0), rest.1)

  set_named : (s : Block) (vs : List ℕ) → s.vars ≡ vs → vs ≢ [] → AllByRecursion (IsUpTo (length ns)) vs → HasNames (set_of ns s)
  set_named s [] is some all = absurd (some refl)
  set_named s (v ∷ vs) is some all = rw is (all_good (v ∷ vs) all)

  sets_named : (sets : List Block) → AllByRecursion (λ s. s.vars ≢ []) sets → AllByRecursion (IsUpTo (length ns)) (variables (pairs sets))
      → AllByRecursion HasNames (map (set_of ns) sets)
  sets_named [] some within = tt
  sets_named (s ∷ sets) some within =
      let own = own_first s.quantifier s.vars (pairs sets) within in
      (set_named s s.vars refl some.0 own.0, sets_named sets some.1 own.1)

  inputs_good : (n : ℕ) (ls : List Literal) → n ≤ length ns → AllByRecursion (λ l. (1 ≤ l.var) × (l.var < n)) ls
      → AllByRecursion (λ m. IsWord m.1) (map (by_name ns) ls)
  inputs_good n [] less all = tt
  inputs_good n (l ∷ ls) less all = (name_is ns l.var words (all.0.0, omega (arith, all.0.1)), inputs_good n ls less all.1)

  gates_named : (gates : List (ℕ × Gate)) → AllByRecursion (IsUpTo (length ns)) (gate_names gates)
      → AllByRecursion (λ g. AllByRecursion (λ l. (1 ≤ l.var) × (l.var < g.0)) (inputs_of g.1)) gates
      → AllByRecursion HasNames (map (gate_of_name ns) gates)
  gates_named [] within order = tt
  gates_named (g ∷ gates) within order =
      ((name_is ns g.0 words within.0, inputs_good g.0 (inputs_of g.1) within.0.1 order.0), gates_named gates within.1 order.1)

statements_named : (bytes : List ℕ) (q : Question) (is : IsQuestion bytes q) (sets : List Block) → AllByRecursion (λ s. s.vars ≢ []) sets
    → q.formula.blocks ≡ blocks_of (pairs sets) → AllByRecursion HasNames (statements_of sets q)
statements_named bytes q is sets filled blocks =
    let n = length q.names in
    let words = all_words q.names is.words in
    let within = subst (AllByRecursion (IsUpTo n)) (sym (by_sets sets q blocks is.numbered)) (range_within 1 n n (omega arith) (omega arith)) in
    let vs = variables (pairs sets) in
    let us = gate_names q.formula.gates in
    let out = q.formula.output in
    all_appended HasNames (map (set_of q.names) sets) (OutputOf out.negative (name_of q.names out.var) ∷ map (gate_of_name q.names) q.formula.gates)
    (sets_named q.names words sets filled (front_of (IsUpTo n) vs us within))
    (name_is q.names out.var words is.output, gates_named q.names words q.formula.gates (rest_of (IsUpTo n) vs us within) is.order)

-- ---- what is spelled is read

-- bytes have a first line
first_line : (bytes : List ℕ) → (first : List ℕ) × (lines : List (List ℕ)) × (slice_split is_line_end bytes ≡ first ∷ lines)
first_line [] = ([], [], refl)
first_line (b ∷ bytes) =
    elim (cases_Bool (is_line_end b)) [
      | inl e ↦ ([], slice_split is_line_end bytes, slice_split-cons_yes is_line_end b bytes e)
      | inr e ↦ (let found = onto (slice_split is_line_end bytes) in
          (found.0, found.1, slice_split-cons_no is_line_end b bytes e ∙ found.2))
    ]
  where
    onto : (lines : List (List ℕ)) → (first : List ℕ) × (more : List (List ℕ)) × (onto_first b lines ≡ first ∷ more)
    onto [] = (b ∷ [], [], refl)
    onto (line ∷ lines) = (b ∷ line, lines, refl)

spelled_is_stated : (bytes : List ℕ) (q : Question) → IsQuestion bytes q → IsStated bytes q
spelled_is_stated bytes q is =
    let text = first_line bytes in
    let split = first_and_rest bytes text.0 text.1 text.2 in
    let named = statements_named bytes q is is.sets is.filled is.blocks in
    let lead = statements_lead is.sets q is.few is.distinct is.blocks (by_sets is.sets q is.blocks is.numbered) is.order is.output in
    record {
      first = text.0;
      lines = text.1;
      split = text.2;
      header = header_is text.0 (subst IsHeader split.0 is.header);
      statements = statements_of is.sets q;
      said = lines_said text.1 (statements_of is.sets q) named
          (sym split.1 ∙ (is.said ∙ ap (map runs) (sym (lines_same is.sets q))));
      last = lead.last;
      lead = lead.lead;
      result = lead.result;
    }

pub reads_questions : ReadsQuestions
reads_questions bytes q = (λ is. read_is_spelled bytes q is, λ is. stated_is_read bytes q (spelled_is_stated bytes q is))

-- ---- the canonical text

blocks_filled : (bs : List Block) → Alternates bs → AllByRecursion (λ s. s.vars ≢ []) bs
blocks_filled [] some = tt
blocks_filled (b ∷ []) some = (some, tt)
blocks_filled (b ∷ c ∷ bs) some = (some.0, blocks_filled (c ∷ bs) some.2)

text_spells : (bytes : List ℕ) (q : Question) → IsQuestion bytes q → IsQuestion (text q) q
text_spells bytes q is =
    let bs = q.formula.blocks in
    let alternates = subst Alternates (sym is.blocks) (Alternates-blocks_of (pairs is.sets)) in
    let filled = blocks_filled bs alternates in
    let blocks : bs ≡ blocks_of (pairs bs) = sym (blocks_of-pairs bs alternates) in
    let named = statements_named bytes q is bs filled blocks in
    let sts = statements_of bs q in
    let lines = lines_of bs q in
    let same = lines_same bs q in
    let inside = subst (AllByRecursion (λ line. AllByRecursion (λ b. is_line_end b ≡ false) line)) same (lines_inside sts named) in
    let rest = flat_map (λ (line : List ℕ). line ++ 10 ∷ []) lines in
    let split = first_and_rest (text q) (codes "#QCIR-14") (slice_split is_line_end rest) (header_before rest) in
    let says : List (List ℕ) → List (List (List ℕ)) = λ ls. filter says_something (map runs ls) in
    record {
      header = subst IsHeader (sym split.0) ([], refl, inl refl);
      sets = bs;
      filled = filled;
      blocks = blocks;
      said = split.1
          ∙ (ap says (lines_are lines inside)
          ∙ (ap (λ (ls : List (List ℕ)). says (ls ++ [] ∷ [])) (sym same) ∙ (all_said sts named ∙ ap (map runs) same)));
      words = is.words;
      distinct = is.distinct;
      few = is.few;
      numbered = is.numbered;
      order = is.order;
      output = is.output;
    }

pub reads_back : ReadsBack
reads_back bytes q is = (reads_questions (text q) q).1 (text_spells bytes q ((reads_questions bytes q).0 is))
