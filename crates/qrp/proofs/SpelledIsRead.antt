-- A trace that tokens spell is read, and a fault that stands is found: accepted tokens, and the state that they lead to.
use Rattle.qrp.proofs.Cited.{common_steps, rules, ◌≡◌, ℕ, ◌≤◌, false, List, [], ◌∷◌, ◌++◌, length, map, Result, Ok, Err, refl, ap, ◌∙◌}
use Rattle.qrp.proofs.Cited.{arith, append_assoc, append-nil, nat_eq, length-append, flat_map, AllByRecursion, Quantifier, Literal, Block}
use Rattle.qrp.proofs.Cited.{IsVariable, Token, Lined, without_lines, number, literal, set, new_number, P7, Header, Item, Inference, IsInference}
use Rattle.qrp.proofs.Cited.{IsLiteral, IsNumber, numbers, AreGrammatical, items_of_lists, Derivation, step, lists, result_word, IsTrace}
use Rattle.qrp.proofs.Cited.{is_used, split_at, TraceFault, Outcome, Sat, ReadsOnce}
use Rattle.dimacs_syntax.proofs.Cited.{IsDistinct}
use Rattle.dimacs_syntax.proofs.Cited.token
use Rattle.dimacs_syntax.proofs.Cited.word
use Rattle.trace_items.specs.declared.item.Item.TheVariants as item
use Rattle.qbf_text.specs.Rows.{Goes, Ends, Fails}
use Rattle.qrp.specs.Reading.{Fault, State, AtP, Between, InSet, InLits, InAnts, AtResult, After, Row, row, items_from, next_state, item_and_more}
use Rattle.qrp.specs.Reading.{InHeader, items, with_items, nothing, read}
use Rattle.dimacs_syntax.specs.declared.header.HeaderAt.TheVariants as place
use Rattle.qrp.specs.Faults.{AreLists, Spells, IsFault, whole_before, Reads}

abbrev pub ItemResult : Type 0
ItemResult = Result Item Fault

-- the items that a row and the tokens after it give
abbrev pub after : Row → ℕ → List Lined → List ItemResult
after (Goes next) line rest = items_from next rest
after (Ends u next) line rest = item_and_more next (items_from (next_state next) rest)
after (Fails f) line rest = Err (f, line) ∷ []

pub items-one : (p : State) (t : Lined) (rest : List Lined) → items_from p (t ∷ rest) ≡ after (row p t.0) t.1 rest
unfolding items_from
items-one p t rest = grind (arith, common_steps)

-- the tokens close these items, and lead from one state to another
pub data Leads : State → List Token → List Item → State → Type 0 where
  Stays : {p : State} → Leads p [] [] p
  Passes : {p next q : State} {t : Token} {ts : List Token} {is : List Item} → row p t ≡ Goes next → Leads next ts is q
      → Leads p (t ∷ ts) is q
  Completes : {p next q : State} {t : Token} {ts : List Token} {i : Item} {is : List Item} → row p t ≡ Ends tt next
      → ((more : List ItemResult) → item_and_more next more ≡ Ok i ∷ more) → Leads (next_state next) ts is q → Leads p (t ∷ ts) (i ∷ is) q

pub leads_then : {p q r : State} {ts us : List Token} {is js : List Item} → Leads p ts is q → Leads q us js r
    → Leads p (ts ++ us) (is ++ js) r
leads_then Stays m = m
leads_then (Passes e l) m = Passes e (leads_then l m)
leads_then (Completes e g l) m = Completes e g (leads_then l m)

-- and then tokens that complete no item
pub leads_on : {p q r : State} {ts us : List Token} {is : List Item} → Leads p ts is q → Leads q us [] r → Leads p (ts ++ us) is r
leads_on l m = rw append-nil at (leads_then l m)

-- the items that are given of them, on whatever lines they stand
pub leads_gives : {p q : State} {ts : List Token} {is : List Item} → Leads p ts is q → (before : List Lined) → without_lines before ≡ ts
    → (rest : List Lined) → items_from p (before ++ rest) ≡ map Ok is ++ items_from q rest
leads_gives Stays [] e rest = refl
leads_gives Stays (t ∷ before) e rest = absurd cc
leads_gives (Passes taken l) [] e rest = absurd cc
leads_gives {p} (Passes {t = u} taken l) (t ∷ before) e rest =
    let same : t.0 ≡ u = cc in
    items-one p t (before ++ rest) ∙ ap (λ (r : Row). after r t.1 (before ++ rest)) (ap (row p) same ∙ taken)
    ∙ leads_gives l before (cc) rest
leads_gives (Completes taken g l) [] e rest = absurd cc
leads_gives {p} (Completes {next = next} {t = u} {i = i} taken g l) (t ∷ before) e rest =
    grind (arith, common_steps, items-one, row, items_from, next_state, (leads_gives l before (cc) rest))

-- no state takes End
pub end_row : (p : State) → row p token.End ≡ Fails P7
end_row p = search rules

-- ---- a set

pub leads_variables : (q : Quantifier) (vs ws : List ℕ) → AllByRecursion IsVariable ws
    → Leads (InSet q vs) (map number ws) [] (InSet q (vs ++ ws))
leads_variables q vs [] h = rw append-nil Stays
leads_variables q vs (w ∷ ws) h = Passes (search rules) (rw append_assoc at (leads_variables q (vs ++ w ∷ []) ws h.1))

leads_sets : (sets : List Block) → AllByRecursion (λ s. AllByRecursion IsVariable s.vars) sets
    → Leads (Between []) (flat_map set sets) (map item.Set sets) (Between [])
leads_sets [] h = Stays
leads_sets (s ∷ sets) h = leads_then (Passes (search rules)
    (leads_then (leads_variables s.quantifier [] s.vars h.0) (Completes refl (λ more. refl) Stays))) (leads_sets sets h.1)

-- ---- a step

pub leads_literals : (ns : List ℕ) (n : ℕ) (ls xs : List Literal) → AllByRecursion IsLiteral xs
    → Leads (InLits ns n ls) (map literal xs) [] (InLits ns n (ls ++ xs))
leads_literals ns n ls [] h = rw append-nil Stays
leads_literals ns n ls (x ∷ xs) h = grind (arith, common_steps, Passes, append_assoc, (leads_literals ns n (ls ++ x ∷ []) xs h.1))

pub leads_antecedents : (ns : List ℕ) (n : ℕ) (ls : List Literal) (ants bs : List ℕ) → AllByRecursion IsNumber bs → length (ants ++ bs) ≤ 2
    → Leads (InAnts ns n ls ants) (map number bs) [] (InAnts ns n ls (ants ++ bs))
leads_antecedents ns n ls ants [] h few = rw append-nil Stays
leads_antecedents ns n ls ants (b ∷ bs) h few = Passes (grind (arith, common_steps, length-append))
    (rw append_assoc at (leads_antecedents ns n ls (ants ++ b ∷ []) bs h.1 (rw append_assoc few)))

leads_step : (ns : List ℕ) (s : Inference) → IsInference s → is_used s.number ns ≡ false
    → Leads (Between ns) (step s) (item.Step s ∷ []) (Between (ns ++ s.number ∷ []))
leads_step ns s h fresh = Passes (search rules)
    (leads_then (leads_literals ns s.number [] s.lits h.lits) (Passes refl
    (leads_then (leads_antecedents ns s.number s.lits [] s.ants h.ants h.few)
    (Completes {next = After (item.Step s) (ns ++ s.number ∷ [])} (search rules) (λ more. refl) Stays))))

leads_steps : (ns : List ℕ) (steps : List Inference) → AllByRecursion IsInference steps → IsDistinct nat_eq (ns ++ numbers steps)
    → Leads (Between ns) (flat_map step steps) (map item.Step steps) (Between (ns ++ numbers steps))
leads_steps ns [] h distinct = rw append-nil Stays
leads_steps ns (s ∷ steps) h distinct =
    leads_then (leads_step ns s h.0 (new_number ns (numbers steps) s.number distinct))
    (rw append_assoc at (leads_steps (ns ++ s.number ∷ []) steps h.1 (rw append_assoc distinct)))

-- ---- header, sets and steps

pub leads_lists : (h : Header) (sets : List Block) (steps : List Inference) → AreGrammatical sets steps
    → Leads AtP (lists h sets steps) (items_of_lists h sets steps) (Between (numbers steps))
leads_lists h sets steps g =
    leads_then (leads_then (Passes refl (Passes refl (Passes refl (Completes refl (λ more. refl) Stays)))) (leads_sets sets g.variables))
    (leads_steps [] steps g.inferences g.distinct)

-- ---- gathering

gathered_more : (d : Derivation) (sets : List Block) (steps : List Inference) (more : List ItemResult)
    → with_items d (map Ok (map item.Set sets ++ map item.Step steps) ++ more)
    ≡ with_items (record d { sets = d.sets ++ sets; steps = d.steps ++ steps }) more
unfolding with_items
gathered_more d [] [] more = rw (append-nil d.sets, append-nil d.steps) refl
gathered_more d [] (s ∷ steps) more = gathered_more (record d { steps = d.steps ++ s ∷ [] }) [] steps more
    ∙ ap (λ (x : List Inference). with_items (record d { sets = d.sets ++ []; steps = x }) more) (append_assoc d.steps (s ∷ []) steps)
gathered_more d (s ∷ sets) steps more = gathered_more (record d { sets = d.sets ++ s ∷ [] }) sets steps more
    ∙ ap (λ (x : List Block). with_items (record d { sets = x; steps = d.steps ++ steps }) more) (append_assoc d.sets (s ∷ []) sets)

-- header, sets and steps are gathered in their places
gathered_lists : (h : Header) (sets : List Block) (steps : List Inference) (more : List ItemResult)
    → with_items nothing (map Ok (item.Header h ∷ (map item.Set sets ++ map item.Step steps)) ++ more)
    ≡ with_items (record { header = h; sets = sets; steps = steps; result = Sat }) more
unfolding with_items
gathered_lists h sets steps more = gathered_more (record nothing { header = h }) sets steps more

-- ---- a trace that is spelled is read

result_row_ok : (ns : List ℕ) (o : Outcome) → row (AtResult ns) (result_word o) ≡ Ends tt (After (item.Result o) ns)
result_row_ok ns o = grind (arith, common_steps)

-- the items of a trace that is spelled
pub spelled_items : (ts : List Lined) (d : Derivation) → IsTrace (without_lines ts) d
    → items ts ≡ map Ok (items_of_lists d.header d.sets d.steps) ++ Ok (item.Result d.result) ∷ []
spelled_items ts d is =
    let k = split_at ts (lists d.header d.sets d.steps ++ token.Word word.R ∷ []) (result_word d.result) is.rest
    (is.spelled ∙ simp append_assoc) in
    ap items k.3
    ∙ leads_gives (leads_on (leads_lists d.header d.sets d.steps is.grammatical) (Passes (search rules) Stays)) k.0 k.4
    ((result_word d.result, k.1) ∷ k.2)
    ∙ ap (λ (x : List ItemResult). map Ok (items_of_lists d.header d.sets d.steps) ++ x)
    (items-one (AtResult (numbers d.steps)) (result_word d.result, k.1) k.2
    ∙ ap (λ (x : Row). after x k.1 k.2) (result_row_ok (numbers d.steps) d.result))

pub spelled_is_read : (ts : List Lined) (d : Derivation) → IsTrace (without_lines ts) d → read ts ≡ Ok d
unfolding with_items
spelled_is_read ts d is =
    ap (with_items nothing) (spelled_items ts d is) ∙ gathered_lists d.header d.sets d.steps (Ok (item.Result d.result) ∷ [])

-- ---- a fault that stands is found

leads_unfinished : {ts unfinished : List Token} {ns : List ℕ} {p : State} → (a : AreLists ts unfinished ns)
    → Leads (Between ns) unfinished [] p
    → Leads AtP ts (items_of_lists a.header a.sets a.steps) p
leads_unfinished a l = rw a.spelled (leads_on (rw a.numbered at (leads_lists a.header a.sets a.steps a.grammatical)) l)

-- the tokens before a state lead to it
spelled_leads : (ts : List Token) (state : State) (s : Spells ts state) → Leads AtP ts (whole_before ts state s) state
spelled_leads ts (InHeader place.P) e = rw e Stays
spelled_leads ts (InHeader place.Format) e = rw e (Passes refl Stays)
spelled_leads ts (InHeader place.First) e = rw e (Passes refl (Passes refl Stays))
spelled_leads ts (InHeader (place.Second v)) e = rw e (Passes refl (Passes refl (Passes refl Stays)))
spelled_leads ts (Between ns) e = leads_unfinished e Stays
spelled_leads ts (InSet q vs) e = leads_unfinished e.0 (Passes (search rules) (leads_variables q [] vs e.1))
spelled_leads ts (InLits ns n ls) e = leads_unfinished e.0 (Passes (search rules) (leads_literals ns n [] ls e.3))
spelled_leads ts (InAnts ns n ls ants) e = leads_unfinished e.0 (Passes (search rules)
    (leads_on (leads_literals ns n [] ls e.3) (Passes refl (leads_antecedents ns n ls [] ants e.4 e.5))))
spelled_leads ts (AtResult ns) e = leads_unfinished e (Passes (search rules) Stays)
spelled_leads ts (After i ns) e = absurd e

before_fault : (ts : List Token) (state : State) (s : Spells ts state) (e : Fault)
    → with_items nothing (map Ok (whole_before ts state s) ++ Err e ∷ []) ≡ Err e
unfolding with_items
before_fault ts state s e = grind (arith, common_steps, gathered_lists)

-- the items before a fault that stands
pub fault_items : (ts : List Lined) (f : TraceFault) (line : ℕ) (is : IsFault ts f line)
    → items ts ≡ map Ok (whole_before (without_lines is.before) is.state is.stands) ++ Err (f, line) ∷ []
fault_items ts f line is =
    ap items is.whole
    ∙ leads_gives (spelled_leads (without_lines is.before) is.state is.stands) is.before refl ((is.wrong, line) ∷ is.after)
    ∙ ap (λ (x : List ItemResult). map Ok (whole_before (without_lines is.before) is.state is.stands) ++ x)
    (items-one is.state (is.wrong, line) is.after ∙ ap (λ (x : Row). after x line is.after) is.refused)

pub fault_is_found : (ts : List Lined) (f : TraceFault) (line : ℕ) → IsFault ts f line → read ts ≡ Err (f, line)
fault_is_found ts f line is =
    ap (with_items nothing) (fault_items ts f line is) ∙ before_fault (without_lines is.before) is.state is.stands (f, line)

-- Tokens read as nothing else.
pub read_once : ReadsOnce Reads read
read_once ts answer h = grind (arith, common_steps, spelled_is_read, fault_is_found)
