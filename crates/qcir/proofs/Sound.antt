-- What is read is well formed.
use Rattle.std.proofs.Common.{arith, ◌≡◌, ℕ, suc, ◌+◌, ◌<◌, ◌≤◌, Bool, true, false, List, [], ◌∷◌, ◌++◌, length, Ok, Err, Result, Some, None, Option, nat_lt, refl, sym, ap, subst, ◌∙◌}
use Rattle.std.proofs.Common.{◌⊎◌, inl, inr, eqb, append_assoc, append-nil}
use Rattle.std.specs.Prelude.{position, bytes_eq}
use Rattle.std.specs.List.{AllByRecursion, IsDistinct, position_or_len, slice_split}
use Rattle.std.proofs.lemmas.Bool.{cases_Bool}
use Rattle.std.proofs.lemmas.List.{map-append}
use Rattle.qcir_tokens.specs.declared.mark.Mark.TheVariants.{Close, Comma, Equals, Hash, Minus, Open}
use Rattle.std.proofs.lemmas.Bool.Decides.{nat_tests}
use Rattle.qbf_core.specs.declared.quantifier.Quantifier.{Quantifier}
use Rattle.qbf_core.specs.declared.quantifier.Quantifier.TheVariants.{All, Exists}
use Rattle.qbf_core.specs.Literal.{Literal}
use Rattle.qbf_core.specs.Members.{◌∈◌}
use Rattle.qbf_core.specs.Blocks.{IsVariable, blocks_of, pairs, variables}
use Rattle.qbf_core.proofs.BlockLaws.{Alternates-blocks_of, pairs-blocks_of}
use Rattle.lists.proofs.DistinctNumbers.{front_distinct}
use Rattle.qbf_gates.specs.declared.kind.GateKind.{GateKind}
use Rattle.qbf_gates.specs.Gates.{Gate, IsWellFormed, StandInOrder, gate_names, names}
use Rattle.qbf_gates.specs.Kept.{fits, gate_of}
use Rattle.qcir_tokens.specs.Tokens.{Sign, Token, Word, tokens}
use Rattle.qcir.specs.declared.fault.QuestionFault.{QuestionFault}
use Rattle.qcir.specs.declared.fault.QuestionFault.TheVariants.{Q5}
use Rattle.qcir.specs.Laws.{ReadsWellFormed}
use Rattle.qcir.specs.Names.{Name, literal_at, literal_named, with_name}
use Rattle.qcir.specs.Reading.{AtPrefix, PartsSoFar, Question, State, InGates, InPrefix, and_literal, bound, by_lines, gate, gate_line, gates_row, gates_state}
use Rattle.qcir.specs.Reading.{inputs, is_header, kind_of, literals, members, on_line, output_row, prefix_line, prefix_row, read_lines}
use Rattle.qcir.specs.Reading.{read_whole, result_at, row, set_row, with_gate, with_output}
use Rattle.qcir.specs.Words.{keyword_of}
use Rattle.qcir.specs.declared.keyword.Keyword.{Keyword}
use Rattle.qcir.specs.declared.keyword.Keyword.TheVariants as words
use Rattle.qbf_tokens.specs.Tokens.{is_line_end}
use Rattle.qcir.proofs.MoreParts.{one_longer}
use Rattle.qcir.proofs.Numbers.{AreUpTo, IsUpTo, all_distinct, all_within, among, either, inputs_up_to, names_more, one_gate_more, one_of, up_to}
use Rattle.qcir.proofs.Ranges.{up_to_is}

-- ---- literals

place_within : (test : Name → Bool) (names : List Name) (i : ℕ) → position test names ≡ Some i → i < length names
place_within test names i at =
    elim (cases_Bool (nat_lt (position_or_len test names) (length names))) [
      | inl e ↦ (let h = rw e at at in let same : position_or_len test names ≡ i = cc in
          let within : position_or_len test names < length names = grind (arith, nat_tests) in omega (arith, same, within))
      | inr e ↦ (let h = rw e at at in absurd cc)
    ]

literal_is : (o : Option ℕ) (negative : Bool) (l : Literal) (n : ℕ) → ((i : ℕ) → o ≡ Some i → i < n) → literal_at negative o ≡ Ok l
    → IsUpTo n l.var
literal_is None negative l n within is = absurd cc
literal_is (Some i) negative l n within is =
    let low : i < n = within i refl in
    let made : Literal = record { var = i + 1; negative = negative } in
    let e : made ≡ l = cc in
    subst (λ (m : Literal). IsUpTo n m.var) e (omega arith, omega arith)

literal_up_to : (names : List Name) (negative : Bool) (w : Name) (l : Literal) → literal_named names negative w ≡ Ok l
    → IsUpTo (length names) l.var
literal_up_to names negative w l is =
    literal_is (position (bytes_eq w) names) negative l (length names) (place_within (bytes_eq w) names) is

both : (n : ℕ) (r : Result Literal QuestionFault) (rest : Result (List Literal) QuestionFault) (ls : List Literal)
    → ((l : Literal) → r ≡ Ok l → IsUpTo n l.var) → ((ms : List Literal) → rest ≡ Ok ms → AreUpTo n ms) → and_literal r rest ≡ Ok ls
    → AreUpTo n ls
both n (Err f) rest ls one more is = absurd cc
both n (Ok l) (Err f) ls one more is = absurd cc
both n (Ok l) (Ok ms) ls one more is =
    let e : l ∷ ms ≡ ls = cc in subst (λ (all : List Literal). AreUpTo n all) e (one l refl, more ms refl)

literals_up_to : (names : List Name) (next : Bool) (ts : List Token) (ls : List Literal) → literals names next ts ≡ Ok ls
    → AreUpTo (length names) ls
literals_up_to names true (Word w ∷ ts) ls is =
    both (length names) (literal_named names false w) (literals names false ts) ls (literal_up_to names false w) (literals_up_to names false ts) is
literals_up_to names true (Sign Minus ∷ Word w ∷ ts) ls is =
    both (length names) (literal_named names true w) (literals names false ts) ls (literal_up_to names true w) (literals_up_to names false ts) is
literals_up_to names false (Sign Comma ∷ ts) ls is = literals_up_to names true ts ls is
literals_up_to names false (Sign Close ∷ []) ls is =
    let e : [] ≡ ls = cc in subst (λ (all : List Literal). AreUpTo (length names) all) e tt
literals_up_to names next ts ls is = absurd cc

inputs_within : (names : List Name) (ts : List Token) (ls : List Literal) → inputs names ts ≡ Ok ls → AreUpTo (length names) ls
inputs_within names (Sign Close ∷ []) ls is =
    let e : [] ≡ ls = cc in subst (λ (all : List Literal). AreUpTo (length names) all) e tt
inputs_within names ts ls is = literals_up_to names true ts ls is

-- ---- the prefix

-- the variables so far, and no gates
record IsBegun (b : PartsSoFar) : Type 0 where
  given : variables b.pairs ≡ up_to (length b.names)
  few : length b.names ≤ 2147483647
  none : b.gates ≡ []

-- variables and gates
record IsSound (b : PartsSoFar) : Type 0 where
  given : variables b.pairs ++ gate_names b.gates ≡ up_to (length b.names)
  few : length b.names ≤ 2147483647
  order : StandInOrder (variables b.pairs) b.gates

few_more : (names more : List Name) (w : Name) → with_name names w ≡ Ok more → length more ≤ 2147483647
few_more names more w is =
    elim (cases_Bool (nat_lt (length names) 2147483647)) [
      | inl few ↦ (let one = one_longer names more w is in let less : length names < 2147483647 = grind (arith, nat_tests) in omega (arith, one, less))
      | inr full ↦ let e = rw full at is in absurd cc
    ]

next_number : (n m : ℕ) (vs : List ℕ) → m ≡ n + 1 → vs ≡ up_to n → vs ++ (n + 1) ∷ [] ≡ up_to m
next_number n m vs one is =
    let e : m ≡ suc n = omega (arith, one) in
    let f : n + 1 ≡ suc n = omega arith in
    rw (e, f) (ap (λ (us : List ℕ). us ++ suc n ∷ []) is)

one_bound : (q : Quantifier) (b : PartsSoFar) (w : Name) (r : Result (List Name) QuestionFault) (c : PartsSoFar) → with_name b.names w ≡ r → IsBegun b
    → bound q b r ≡ Ok c → IsBegun c
one_bound q b w (Err f) c named sound is = absurd cc
one_bound q b w (Ok names) c named sound is =
    let made : PartsSoFar = record b { names = names; pairs = b.pairs ++ (q, length b.names + 1) ∷ [] } in
    let e : made ≡ c = cc in
    subst (λ (d : PartsSoFar). IsBegun d) e (record {
      given = map-append (λ (p : Quantifier × ℕ). p.1) b.pairs ((q, length b.names + 1) ∷ [])
          ∙ next_number (length b.names) (length names) (variables b.pairs) (one_longer b.names names w named) sound.given;
      few = few_more b.names names w named;
      none = sound.none;
    })

members_sound : (q : Quantifier) (next : Bool) (ts : List Token) (r : Result PartsSoFar QuestionFault) (c : PartsSoFar) → ((b : PartsSoFar) → r ≡ Ok b → IsBegun b)
    → members q next ts r ≡ Ok c → IsBegun c
members_sound q next ts (Err f) c sound is = absurd cc
members_sound q true (Word w ∷ ts) (Ok b) c sound is =
    members_sound q false ts (bound q b (with_name b.names w)) c (λ d. one_bound q b w (with_name b.names w) d refl (sound b refl)) is
members_sound q false (Sign Comma ∷ ts) (Ok b) c sound is = members_sound q true ts (Ok b) c sound is
members_sound q false (Sign Close ∷ []) (Ok b) c sound is = sound c is
members_sound q next ts (Ok b) c sound is = absurd cc

-- ---- gates

has_all : (b : PartsSoFar) → IsSound b → (v : ℕ) → 1 ≤ v → v ≤ length b.names → (v ∈ variables b.pairs) ⊎ (v ∈ gate_names b.gates)
has_all b sound v low high =
    either v (variables b.pairs) (gate_names b.gates)
    (subst (λ (vs : List ℕ). v ∈ vs) (sym sound.given) (among (length b.names) v low high))

one_gate : (b : PartsSoFar) (w : Name) (kind : GateKind) (ls : List Literal) (r : Result (List Name) QuestionFault) (c : PartsSoFar)
    → AreUpTo (length b.names) ls → with_name b.names w ≡ r → IsSound b → with_gate b kind ls r ≡ Ok c → IsSound c
one_gate b w kind ls (Err f) c all named sound is = absurd cc
one_gate b w kind ls (Ok names) c all named sound is =
    let new : ℕ × Gate = (length b.names + 1, gate_of kind ls) in
    let made : PartsSoFar = record b { names = names; gates = b.gates ++ new ∷ [] } in
    let e : made ≡ c = cc in
    subst (λ (d : PartsSoFar). IsSound d) e (record {
      given = ap (λ (ns : List ℕ). variables b.pairs ++ ns) (names_more b.gates new)
          ∙ (sym (append_assoc (variables b.pairs) (gate_names b.gates) ((length b.names + 1) ∷ []))
          ∙ next_number (length b.names) (length names) (variables b.pairs ++ gate_names b.gates) (one_longer b.names names w named) sound.given);
      few = few_more b.names names w named;
      order = one_gate_more (variables b.pairs) b.gates new (length b.names) (has_all b sound) (inputs_up_to (length b.names) kind ls all)
          sound.order;
    })

gate_sound : (b : PartsSoFar) (w : Name) (kind : GateKind) (r : Result (List Literal) QuestionFault) (c : PartsSoFar)
    → ((ls : List Literal) → r ≡ Ok ls → AreUpTo (length b.names) ls) → IsSound b → gate b w kind r ≡ Ok c → IsSound c
gate_sound b w kind (Err f) c all sound is = absurd cc
gate_sound b w kind (Ok ls) c all sound is =
    elim (cases_Bool (fits kind (length ls))) [
      | inl e ↦ (let made = rw e at is in one_gate b w kind ls (with_name b.names w) c (all ls refl) refl sound made)
      | inr e ↦ (let refused = rw e at is in absurd cc)
    ]

line_sound : (b : PartsSoFar) (w : Name) (k : Result GateKind QuestionFault) (ts : List Token) (c : PartsSoFar) → IsSound b → gate_line b w k ts ≡ Ok c
    → IsSound c
line_sound b w (Err f) ts c sound is = absurd cc
line_sound b w (Ok kind) ts c sound is = gate_sound b w kind (inputs b.names ts) c (inputs_within b.names ts) sound is

gates_sound : (b : PartsSoFar) (ts : List Token) (c : PartsSoFar) → IsSound b → gates_row b ts ≡ Ok c → IsSound c
gates_sound b [] c sound is = let e : b ≡ c = cc in subst (λ (d : PartsSoFar). IsSound d) e sound
gates_sound b (Sign Hash ∷ ts) c sound is = let e : b ≡ c = cc in subst (λ (d : PartsSoFar). IsSound d) e sound
gates_sound b (Word w ∷ Sign Equals ∷ Word k ∷ Sign Open ∷ ts) c sound is = line_sound b w (kind_of (keyword_of k)) ts c sound is
gates_sound b ts c sound is = absurd cc

-- ---- states

IsSoundState : State → Type 0
IsSoundState (InPrefix b) = IsBegun b
IsSoundState (InGates b negative w) = IsSound b

begun_is_sound : (b : PartsSoFar) → IsBegun b → IsSound b
begun_is_sound b begun = record {
  given = ap (λ (gates : List (ℕ × Gate)). variables b.pairs ++ gate_names gates) begun.none ∙ (append-nil (variables b.pairs) ∙ begun.given);
  few = begun.few;
  order = subst (λ (gates : List (ℕ × Gate)). StandInOrder (variables b.pairs) gates) (sym begun.none) tt;
}

set_sound : (r : Result PartsSoFar QuestionFault) (t : State) → ((c : PartsSoFar) → r ≡ Ok c → IsBegun c) → set_row r ≡ Ok t → IsSoundState t
unfolding IsSoundState
set_sound (Err f) t sound is = absurd cc
set_sound (Ok c) t sound is = let e : InPrefix c ≡ t = cc in subst (λ (s : State). IsSoundState s) e (sound c refl)

output_sound : (b : PartsSoFar) (ts : List Token) (t : State) → IsBegun b → output_row b ts ≡ Ok t → IsSoundState t
unfolding IsSoundState
output_sound b (Word w ∷ Sign Close ∷ []) t begun is =
    let e : InGates b false w ≡ t = cc in subst (λ (s : State). IsSoundState s) e (begun_is_sound b begun)
output_sound b (Sign Minus ∷ Word w ∷ Sign Close ∷ []) t begun is =
    let e : InGates b true w ≡ t = cc in subst (λ (s : State). IsSoundState s) e (begun_is_sound b begun)
output_sound b ts t begun is = absurd cc

prefix_line_sound : (b : PartsSoFar) (word : Keyword) (ts : List Token) (t : State) → IsBegun b → prefix_line b word ts ≡ Ok t → IsSoundState t
prefix_line_sound b words.Exists ts t begun is = set_sound (members Exists true ts (Ok b)) t (members_of Exists) is
  where
    members_of : (q : Quantifier) (c : PartsSoFar) → members q true ts (Ok b) ≡ Ok c → IsBegun c
    members_of q c = members_sound q true ts (Ok b) c (λ d e. subst (λ (a : PartsSoFar). IsBegun a) (cc) begun)
prefix_line_sound b words.Forall ts t begun is = set_sound (members All true ts (Ok b)) t (members_of All) is
  where
    members_of : (q : Quantifier) (c : PartsSoFar) → members q true ts (Ok b) ≡ Ok c → IsBegun c
    members_of q c = members_sound q true ts (Ok b) c (λ d e. subst (λ (a : PartsSoFar). IsBegun a) (cc) begun)
prefix_line_sound b words.Output ts t begun is = output_sound b ts t begun is
prefix_line_sound b word ts t begun is = absurd cc

prefix_sound : (b : PartsSoFar) (ts : List Token) (t : State) → IsBegun b → prefix_row b ts ≡ Ok t → IsSoundState t
unfolding IsSoundState
prefix_sound b [] t begun is = let e : InPrefix b ≡ t = cc in subst (λ (s : State). IsSoundState s) e begun
prefix_sound b (Sign Hash ∷ ts) t begun is = let e : InPrefix b ≡ t = cc in subst (λ (s : State). IsSoundState s) e begun
prefix_sound b (Word w ∷ Sign Open ∷ ts) t begun is = prefix_line_sound b (keyword_of w) ts t begun is
prefix_sound b ts t begun is = absurd cc

kept_output : (negative : Bool) (w : Name) (r : Result PartsSoFar QuestionFault) (t : State) → ((c : PartsSoFar) → r ≡ Ok c → IsSound c)
    → gates_state negative w r ≡ Ok t → IsSoundState t
unfolding IsSoundState
kept_output negative w (Err f) t sound is = absurd cc
kept_output negative w (Ok c) t sound is =
    let e : InGates c negative w ≡ t = cc in subst (λ (s : State). IsSoundState s) e (sound c refl)

-- a gate is read whatever comes after its line
pub read_so : (names : List Name) (line : List ℕ) (lines : List (List ℕ)) (r : Result PartsSoFar QuestionFault) (c : PartsSoFar)
    → by_lines names line lines r ≡ Ok c → r ≡ Ok c
read_so names line lines (Ok b) c is = is
read_so names line lines (Err Q5) c is = absurd cc
read_so names line lines (Err f) c is = absurd cc

row_sound : (s : State) (line : List ℕ) (lines : List (List ℕ)) (t : State) → IsSoundState s → row s line lines ≡ Ok t → IsSoundState t
unfolding IsSoundState
row_sound (InPrefix b) line lines t sound is = prefix_sound b (tokens line) t sound is
row_sound (InGates b negative w) line lines t sound is =
    let here = gates_row b (tokens line) in
    kept_output negative w (by_lines b.names line lines here) t
    (λ c e. gates_sound b (tokens line) c sound (read_so b.names line lines here c e)) is

-- ---- the whole

record IsSoundQuestion (q : Question) : Type 0 where
  formed : IsWellFormed q.formula
  numbered : names q.formula ≡ up_to (length q.names)

variables_within : (n : ℕ) → n ≤ 2147483647 → AllByRecursion IsVariable (up_to n)
variables_within n few = all_within n 2147483647 few

pub front_of : (P : ℕ → Type 0) (vs us : List ℕ) → AllByRecursion P (vs ++ us) → AllByRecursion P vs
front_of P [] us all = tt
front_of P (v ∷ vs) us all = (all.0, front_of P vs us all.1)

pub rest_of : (P : ℕ → Type 0) (vs us : List ℕ) → AllByRecursion P (vs ++ us) → AllByRecursion P us
rest_of P [] us all = all
rest_of P (v ∷ vs) us all = rest_of P vs us all.1

formed : (b : PartsSoFar) (l : Literal) → IsSound b → IsUpTo (length b.names) l.var
    → IsSoundQuestion (record { names = b.names; formula = record { blocks = blocks_of b.pairs; gates = b.gates; output = l } })
formed b l sound own =
    let same : pairs (blocks_of b.pairs) ≡ b.pairs = pairs-blocks_of b.pairs in
    let known : variables (pairs (blocks_of b.pairs)) ≡ variables b.pairs = ap (λ (ps : List (Quantifier × ℕ)). variables ps) same in
    let all : variables (pairs (blocks_of b.pairs)) ++ gate_names b.gates ≡ up_to (length b.names) =
    ap (λ (vs : List ℕ). vs ++ gate_names b.gates) known ∙ sound.given in
    let within = subst (λ (vs : List ℕ). AllByRecursion IsVariable vs) (sym all) (variables_within (length b.names) sound.few) in
    let distinct = subst (λ (vs : List ℕ). IsDistinct eqb vs) (sym all) (all_distinct (length b.names)) in
    record {
      numbered = all;
      formed = record {
        prefix = record {
          alternates = Alternates-blocks_of b.pairs;
          distinct = front_distinct (variables (pairs (blocks_of b.pairs))) (gate_names b.gates) distinct;
          within = front_of IsVariable (variables (pairs (blocks_of b.pairs))) (gate_names b.gates) within;
        };
        distinct = distinct;
        within = rest_of IsVariable (variables (pairs (blocks_of b.pairs))) (gate_names b.gates) within;
        order = subst (λ (vs : List ℕ). StandInOrder vs b.gates) (sym known) sound.order;
        output = one_of (variables (pairs (blocks_of b.pairs)) ++ gate_names b.gates) l
            (subst (λ (vs : List ℕ). l.var ∈ vs) (sym all) (among (length b.names) l.var own.0 own.1));
      };
    }

result_of : (b : PartsSoFar) (r : Result Literal QuestionFault) (q : Question) → ((l : Literal) → r ≡ Ok l → IsUpTo (length b.names) l.var) → IsSound b
    → with_output b r ≡ Ok q → IsSoundQuestion q
result_of b (Err f) q own sound is = absurd cc
result_of b (Ok l) q own sound is =
    let made : Question = record { names = b.names; formula = record { blocks = blocks_of b.pairs; gates = b.gates; output = l } } in
    let e : made ≡ q = cc in subst (λ (p : Question). IsSoundQuestion p) e (formed b l sound (own l refl))

end_sound : (s : State) (q : Question) → IsSoundState s → result_at s ≡ Ok q → IsSoundQuestion q
unfolding IsSoundState
end_sound (InPrefix b) q sound is = absurd cc
end_sound (InGates b negative w) q sound is =
    result_of b (literal_named b.names negative w) q (literal_up_to b.names negative w) sound is

pub off_line : {A : Type 0} (n : ℕ) (r : Result A QuestionFault) (a : A) → on_line n r ≡ Ok a → r ≡ Ok a
off_line n (Err f) a is = absurd cc
off_line n (Ok b) a is = cc

lines_sound : (r : Result State (QuestionFault × ℕ)) (n : ℕ) (lines : List (List ℕ)) (q : Question)
    → ((s : State) → r ≡ Ok s → IsSoundState s) → read_lines r n lines ≡ Ok q → IsSoundQuestion q
lines_sound (Err e) n lines q sound is = absurd cc
lines_sound (Ok s) n [] q sound is = end_sound s q (sound s refl) (off_line n (result_at s) q is)
lines_sound (Ok s) n (line ∷ lines) q sound is =
    lines_sound (on_line (n + 1) (row s line lines)) (n + 1) lines q
    (λ t e. row_sound s line lines t (sound s refl) (off_line (n + 1) (row s line lines) t e)) is

start_sound : (r : Result State (QuestionFault × ℕ)) → r ≡ Ok AtPrefix → (s : State) → r ≡ Ok s → IsSoundState s
unfolding IsSoundState
start_sound r first s is =
    let e : AtPrefix ≡ s = cc in
    subst (λ (t : State). IsSoundState t) e (record { given = refl; few = omega arith; none = refl })

whole_sound : (lines : List (List ℕ)) (q : Question) → read_whole lines ≡ Ok q → IsSoundQuestion q
whole_sound [] q is = absurd cc
whole_sound (line ∷ lines) q is =
    elim (cases_Bool (is_header (tokens line))) [
      | inl e ↦ (let read = rw e at is in lines_sound (Ok AtPrefix) 1 lines q (start_sound (Ok AtPrefix) refl) read)
      | inr e ↦ (let refused = rw e at is in absurd cc)
    ]

pub reads_well_formed : ReadsWellFormed
reads_well_formed bytes q is =
    let sound = whole_sound (slice_split is_line_end bytes) q is in (sound.formed, sound.numbered ∙ up_to_is (length q.names))
