-- A trace that is read is spelled, and a fault that is found stands.
use Rattle.qrp.proofs.Cited.{common_steps, rules, ◌≡◌, ℕ, ◌≤◌, ◌+◌, List, [], ◌∷◌, ◌++◌, ◌⊎◌, inl, inr, length, Ok, Err, refl, sym, ◌∙◌}
use Rattle.qrp.proofs.Cited.{false, arith, append_assoc, append-nil, map-append, length-append, AllByRecursion, Quantifier, Literal, Block}
use Rattle.qrp.proofs.Cited.{IsVariable, AllByRecursion-push, Token, Lined, without_lines, number, letter, set, EndsOnce, push_distinct}
use Rattle.qrp.proofs.Cited.{flat_map-push, Header, Outcome, Inference, IsInference, IsNumber, numbers, Derivation, step, result_word}
use Rattle.qrp.proofs.Cited.{lists, ReadsAsRead, explained, is_used}
use Rattle.dimacs_syntax.proofs.Cited.{IsDistinct}
use Rattle.dimacs_syntax.proofs.Cited.token
use Rattle.dimacs_syntax.proofs.Cited.word
use Rattle.qbf_text.proofs.AcceptedTokens.{LeadsOrEnds}
use Rattle.dimacs_syntax.specs.declared.header.HeaderAt.TheVariants as place
use Rattle.qrp.specs.Faults.{AreLists, Spells, Reads}
use Rattle.qbf_text.specs.Rows.{Goes, Ends, Fails}
use Rattle.trace_items.specs.declared.item.Item.TheVariants as item
use Rattle.qrp.specs.Reading.{State, AtP, InHeader, Between, InSet, InLits, InAnts, AtResult, After, Row, row, next_state, read}
use Rattle.qrp.proofs.SpelledIsRead.{end_row, read_once}

-- ---- lists that grow

-- a token after an unfinished list
pushed : {ts unfinished : List Token} {ns : List ℕ} (t : Token) → AreLists ts unfinished ns
    → AreLists (ts ++ t ∷ []) (unfinished ++ t ∷ []) ns
pushed t a = grind (arith, common_steps, append_assoc)

set_pushed : (h : Header) (sets : List Block) (s : Block) (steps : List Inference) → numbers steps ≡ []
    → lists h sets steps ++ set s ≡ lists h (sets ++ s ∷ []) steps ++ []
set_pushed h sets s (x ∷ steps) e = absurd cc
set_pushed h sets s [] e = grind (arith, common_steps, append-nil, flat_map-push, append_assoc)

set_closed : {ts : List Token} (s : Block) → AllByRecursion IsVariable s.vars → AreLists ts (set s) [] → AreLists ts [] []
set_closed s vars a = record {
  header = a.header;
  sets = a.sets ++ s ∷ [];
  steps = a.steps;
  spelled = a.spelled ∙ set_pushed a.header a.sets s a.steps a.numbered;
  numbered = a.numbered;
  grammatical = grind (arith, common_steps, a.grammatical);
}

step_closed : {ts : List Token} {ns : List ℕ} (s : Inference) → IsInference s → is_used s.number ns ≡ false → AreLists ts (step s) ns
    → AreLists ts [] (ns ++ s.number ∷ [])
step_closed s is fresh a = record {
  header = a.header;
  sets = a.sets;
  steps = a.steps ++ s ∷ [];
  spelled = a.spelled ∙ (simp (flat_map-push, append_assoc)) ∙ sym (append-nil (lists a.header a.sets (a.steps ++ s ∷ [])));
  numbered = rw (map-append, a.numbered) refl;
  grammatical = record {
    variables = a.grammatical.variables;
    inferences = AllByRecursion-push IsInference a.steps s a.grammatical.inferences is;
    distinct = rw map-append (push_distinct (numbers a.steps) s.number a.grammatical.distinct (rw a.numbered fresh));
  };
}

-- ---- one token more

-- a row leads to a state, and is not the last
abbrev IsTo : Row → State → Type 0
IsTo (Goes p) next = p ≡ next
IsTo (Ends u (After (item.Result o) ns)) next = ⊥
IsTo (Ends u p) next = next_state p ≡ next
IsTo (Fails f) next = ⊥

header_goes : (v : ℕ) (t : Token) (next : State) → IsTo (row (InHeader (place.Second v)) t) next → (n : ℕ) × (t ≡ number n) × (next ≡ Between [])
header_goes v t next e = search rules

list_begins : (ns : List ℕ) (t : Token) (next : State) → IsTo (row (Between ns) t) next
    → ((q : Quantifier) × (ns ≡ []) × (t ≡ letter q) × (next ≡ InSet q []))
    ⊎ ((n : ℕ) × IsNumber n × (is_used n ns ≡ false) × (t ≡ number n) × (next ≡ InLits ns n []))
    ⊎ ((t ≡ token.Word word.R) × (next ≡ AtResult ns))
list_begins ns t next e = search rules

set_goes : (q : Quantifier) (vs : List ℕ) (t : Token) (next : State) → IsTo (row (InSet q vs) t) next
    → ((t ≡ number 0) × (next ≡ Between [])) ⊎ ((v : ℕ) × IsVariable v × (t ≡ number v) × (next ≡ InSet q (vs ++ v ∷ [])))
set_goes q vs t next e = search rules

antecedents_go : (ns : List ℕ) (n : ℕ) (ls : List Literal) (ants : List ℕ) (t : Token) (next : State)
    → IsTo (row (InAnts ns n ls ants) t) next
    → ((t ≡ number 0) × (next ≡ Between (ns ++ n ∷ [])))
    ⊎ ((a : ℕ) × IsNumber a × (length ants + 1 ≤ 2) × (t ≡ number a) × (next ≡ InAnts ns n ls (ants ++ a ∷ [])))
antecedents_go ns n ls ants t next e = search rules

-- the result is the last, and after another item reading goes on
row_ends : (p next : State) (t : Token) → row p t ≡ Ends tt next
    → ((ns : List ℕ) × (o : Outcome) × (p ≡ AtResult ns) × (t ≡ result_word o)) ⊎ IsTo (row p t) (next_state next)
row_ends p next t e = search rules

-- an accepted token leads to a state that the tokens spell
goes : (ts : List Token) (p next : State) (t : Token) → Spells ts p → IsTo (row p t) next → Spells (ts ++ t ∷ []) next
unfolding IsDistinct
goes ts (InHeader (place.Second v)) next t s e =
    let k = header_goes v t next e in
    rw (k.2, k.1, s) (record {
      header = record { vars = v; steps = k.0 };
      sets = [];
      steps = [];
      spelled = refl;
      numbered = refl;
      grammatical = record { variables = tt; inferences = tt; distinct = tt };
    })
goes ts (InHeader here) next t s e = search rules
goes ts (Between ns) next t s e = elim (list_begins ns t next e) [
  | inl k ↦ rw (k.3, k.2) (pushed (letter k.0) (rw k.1 at s), tt)
  | inr (inl k) ↦ rw (k.4, k.3) (pushed (number k.0) s, k.1, k.2, tt)
  | inr (inr k) ↦ rw (k.1, k.0) (pushed (token.Word word.R) s)
]
goes ts (AtResult ns) next t s e = search rules
goes ts (After i ns) next t s e = absurd s
goes ts (InSet q vs) next t s e = elim (set_goes q vs t next e) [
  | inl k ↦ rw (k.1, k.0) (set_closed (record { quantifier = q; vars = vs }) s.1 (pushed (number 0) s.0))
  | inr k ↦ rw (k.3, k.2) (rw map-append (pushed (number k.0) s.0), AllByRecursion-push IsVariable vs k.0 s.1 k.1)
]
goes ts (InLits ns n ls) next t s e = grind (arith, common_steps, pushed, map-append)
goes ts (InAnts ns n ls ants) next t s e = elim (antecedents_go ns n ls ants t next e) [
  | inl k ↦ rw (k.1, k.0) (step_closed (record { number = n; lits = ls; ants = ants })
      (record { number = s.1; lits = s.3; ants = s.4; few = s.5 }) s.2 (rw append_assoc at (pushed (number 0) s.0)))
  | inr k ↦ rw (k.4, k.3) (
    rw map-append (rw append_assoc at (pushed (number k.0) s.0)),
    s.1,
    s.2,
    s.3,
    AllByRecursion-push IsNumber ants k.0 s.4 k.1,
    omega (arith, length-append ants (k.0 ∷ []), k.2),
  )
]

-- ---- the whole

whole_trace : (before : List Lined) (t : Lined) (ts : List Lined) (ns : List ℕ) (o : Outcome) → Spells (without_lines before) (AtResult ns)
    → t.0 ≡ result_word o → (d : Derivation) × Reads (before ++ t ∷ ts) (Ok d)
whole_trace before t ts ns o a is = (
  record { header = a.header; sets = a.sets; steps = a.steps; result = o },
  record {
    rest = without_lines ts;
    spelled = map-append (λ u. u.0) before (t ∷ ts) ∙ (λ i. a.spelled i ++ is i ∷ without_lines ts) ∙ simp append_assoc;
    grammatical = a.grammatical;
  },
)

answer : (before : List Lined) (p : State) (t : Lined) (ts : List Lined) → Spells (without_lines before) p → EndsOnce (t ∷ ts)
    → LeadsOrEnds Spells Reads before t ts
answer before p t ts s once = by (row p t.0) refl
  where
    on : (next : State) → IsTo (row p t.0) next → LeadsOrEnds Spells Reads before t ts
    on next e = inr ((λ end. (rw (end, end_row p) at e)), next, goes (without_lines before) p next t.0 s e)

    by : (r : Row) → row p t.0 ≡ r → LeadsOrEnds Spells Reads before t ts
    by (Goes next) is = on next (rw is refl)
    by (Ends u next) is = elim (row_ends p next t.0 is) [
      | inl k ↦ let d = whole_trace before t ts k.0 k.1 (rw k.2 at s) k.3 in inl (Ok d.0, d.1)
      | inr e ↦ on (next_state next) e
    ]
    by (Fails f) is =
        inl (Err (f, t.1), record { before = before; wrong = t.0; after = ts; whole = refl; state = p; stands = s; refused = is })

-- A trace that is read is spelled; a fault that is found stands.
pub read_explained : ReadsAsRead Reads read
read_explained = explained Spells Reads read AtP refl answer read_once
