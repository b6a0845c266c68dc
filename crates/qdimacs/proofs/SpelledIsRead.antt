-- A formula that tokens spell is read, and a fault that stands is found: accepted tokens, and the state that they lead to.
use Rattle.qdimacs.proofs.Cited.{common_steps, rules, ◌≡◌, ◌∙◌, ◌≢◌, ℕ, ◌<◌, ◌≤◌, ◌+◌, Bool, true, List, [], ◌∷◌, ◌++◌, length, map, refl}
use Rattle.qdimacs.proofs.Cited.{arith, append_assoc, Ok, Err, ap, sym, subst, map-append, length-append, flat_map, AllByRecursion}
use Rattle.qdimacs.proofs.Cited.{Quantifier, Literal, Block, pairs, is_bound, blocks_of, variables, Token, number, literal, letter, set}
use Rattle.qdimacs.proofs.Cited.{Ends, Qbf, Lined, without_lines, read-one, append-nil, pairs_of_block, middle, front_all, front_distinct}
use Rattle.qdimacs.proofs.Cited.{new_number, Leads, Stays, leads_then, split_at, leads_reads, AreGood, Reads, Spells, IsFault, header}
use Rattle.qdimacs.proofs.Cited.{clause, IsFormula, Heading, State, AtP, InHeader, Between, InSet, InClause, Whole, row, Pairs, Clauses}
use Rattle.qdimacs.proofs.Cited.{AreFrom, Row, read, result_of, blocks_of-pairs, ReadsOnce, FormulaFault, after, IsVariable, all_both}
use Rattle.qdimacs.proofs.Cited.{all_of}
use Rattle.dimacs_syntax.proofs.Cited.token
use Rattle.dimacs_syntax.proofs.Cited.word
use Rattle.qdimacs.proofs.AllVariablesBound.{is_bound_variables}
use Rattle.qbf_text.proofs.AcceptedTokens.{Passes}
use Rattle.dimacs_syntax.specs.declared.header.HeaderAt.TheVariants as place

-- ---- the header

-- at the number of clauses
pub leads_vars : (v : ℕ) → v ≤ 2147483647 → Leads row AtP (token.Word word.P ∷ token.Word word.Cnf ∷ number v ∷ []) (InHeader (place.Second v))
leads_vars v lv = Passes refl (Passes refl (Passes (search rules) Stays))

pub leads_header : (h : Heading) → h.max_var ≤ 2147483647 → h.count ≤ 2147483647
    → Leads row AtP (header h.max_var h.count) (Between h [] [])
leads_header h lv lc = leads_then (leads_vars h.max_var lv) (Passes (search rules) Stays)

-- ---- variables

-- a fact that holds of each variable holds of a bound one
pub bound_one : (P : ℕ → Type 0) (v : ℕ) (ps : Pairs) → is_bound v ps ≡ true → AllByRecursion P (variables ps) → P v
bound_one P v [] e h = absurd cc
bound_one P v (y ∷ ps) e h = let rest = bound_one P v ps in search rules

pub good_front : (max_var : ℕ) (xs ys : Pairs) → AreGood max_var (xs ++ ys) → AreGood max_var xs
good_front max_var xs ys good = grind (arith, common_steps, front_distinct, front_all)

-- ---- a set

leads_variables : (h : Heading) (ps : Pairs) (q : Quantifier) (vs : List ℕ) → AreGood h.max_var (ps ++ map (λ v. (q, v)) vs)
    → Leads row (InSet h ps q) (map number vs) (InSet h (ps ++ map (λ v. (q, v)) vs) q)
leads_variables h ps q [] good = rw append-nil Stays
leads_variables h ps q (v ∷ vs) good =
    let more = variables (map (λ w. (q, w)) vs) in
    let bounds = middle (λ w. (1 ≤ w) × (w ≤ h.max_var)) (variables ps) more v (rw map-append at good.within) in
    let fresh = is_bound_variables v ps ∙ new_number (variables ps) more v (rw map-append at good.distinct) in
    Passes (search rules)
    (rw append_assoc at (leads_variables h (ps ++ (q, v) ∷ []) q vs (rw append_assoc good)))

-- a set that is not closed
pub leads_unfinished_set : (h : Heading) (ps : Pairs) (q : Quantifier) (vs : List ℕ)
    → AreGood h.max_var (ps ++ map (λ v. (q, v)) vs)
    → Leads row (Between h ps []) (letter q ∷ map number vs) (InSet h (ps ++ map (λ v. (q, v)) vs) q)
leads_unfinished_set h ps q vs good = Passes (search rules) (leads_variables h ps q vs good)

pub leads_sets : (h : Heading) (ps : Pairs) (sets : List Block) → AreGood h.max_var (ps ++ pairs sets)
    → Leads row (Between h ps []) (flat_map set sets) (Between h (ps ++ pairs sets) [])
leads_sets h ps [] good = rw append-nil Stays
leads_sets h ps (s ∷ sets) good =
    let next = ps ++ pairs_of_block s in
    let all : AreGood h.max_var (next ++ pairs sets) = rw append_assoc good in
    rw (← append_assoc ps (pairs_of_block s) (pairs sets)) (leads_then
    (leads_then (leads_unfinished_set h ps s.quantifier s.vars (good_front h.max_var next (pairs sets) all))
    (Passes refl Stays)) (leads_sets h next sets all))

-- ---- a clause

module _ (h : Heading) (ps : Pairs) (good : AreGood h.max_var ps) where
  -- the literals of a clause that is not closed
  leads_literals : (cs : Clauses) (ls xs : List Literal) → AreFrom ps xs
      → Leads row (InClause h ps cs ls) (map literal xs) (InClause h ps cs (ls ++ xs))
  leads_literals cs ls [] bound = rw append-nil Stays
  leads_literals cs ls (l ∷ xs) bound =
      let bounds = bound_one (λ w. (1 ≤ w) × (w ≤ h.max_var)) l.var ps bound.0 good.within in
      Passes (search rules)
      (rw append_assoc at (leads_literals cs (ls ++ l ∷ []) xs bound.1))

  begins : {cs : Clauses} {negative : Bool} {n : ℕ} {ts : List Token} {q : State} → length cs < h.count
      → Leads row (InClause h ps cs []) (token.Number negative n ∷ ts) q → Leads row (Between h ps cs) (token.Number negative n ∷ ts) q
  begins {cs} {negative} {n} more (Passes e l) = Passes (grind (arith, common_steps)) l

  pub leads_unfinished_clause : (cs : Clauses) (ls : List Literal) → AreFrom ps ls → ls ≢ []
      → length cs < h.count → Leads row (Between h ps cs) (map literal ls) (InClause h ps cs ls)
  leads_unfinished_clause cs [] bound some more = absurd (some refl)
  leads_unfinished_clause cs (l ∷ ls) bound some more = begins more (leads_literals cs [] (l ∷ ls) bound)

  leads_clause : (cs : Clauses) (c : List Literal) → AreFrom ps c → length cs < h.count
      → Leads row (Between h ps cs) (clause c) (Between h ps (cs ++ c ∷ []))
  leads_clause cs [] bound more = begins more (Passes refl Stays)
  leads_clause cs (l ∷ ls) bound more = begins more (leads_then (leads_literals cs [] (l ∷ ls) bound) (Passes refl Stays))

  pub leads_clauses : (cs xs : Clauses) → AllByRecursion (AreFrom ps) xs
      → length cs + length xs ≤ h.count → Leads row (Between h ps cs) (flat_map clause xs) (Between h ps (cs ++ xs))
  leads_clauses cs [] bound few = rw append-nil Stays
  leads_clauses cs (c ∷ xs) bound few = leads_then (leads_clause cs c bound.0 (omega arith))
      (rw append_assoc at (leads_clauses (cs ++ c ∷ []) xs bound.1 (omega (arith, length-append cs (c ∷ [])))))

-- the end, once all clauses are there
pub end_row : (h : Heading) (ps : Pairs) (cs : Clauses) → h.count ≤ length cs
    → row (Between h ps cs) token.End ≡ Ends tt (Whole (record { max_var = h.max_var; blocks = blocks_of ps; clauses = cs }))
end_row h ps cs all = search rules

-- whole sets and whole clauses
leads_lists : (h : Heading) (sets : List Block) (cs : Clauses) → h.max_var ≤ 2147483647 → h.count ≤ 2147483647
    → AreGood h.max_var (pairs sets) → AllByRecursion (AreFrom (pairs sets)) cs → length cs ≤ h.count
    → Leads row AtP (header h.max_var h.count ++ flat_map set sets ++ flat_map clause cs) (Between h (pairs sets) cs)
leads_lists h sets cs lv lc good closed few =
    leads_then (leads_then (leads_header h lv lc) (leads_sets h [] sets good))
    (leads_clauses h (pairs sets) good [] cs closed (omega arith))

-- A formula that is spelled is read.
pub spelled_is_read : (ts : List Lined) (f : Qbf) → IsFormula (without_lines ts) f → read ts ≡ Ok f
spelled_is_read ts f is =
    let h : Heading = record { max_var = f.max_var; count = length f.clauses } in
    let w = is.well_formed in
    let good : AreGood f.max_var (pairs is.sets) = subst (AreGood f.max_var) (sym is.bound) (record {
      distinct = w.prefix.distinct;
      within = all_both (λ v. 1 ≤ v) (λ v. v ≤ f.max_var) _ (all_of IsVariable (λ v. 1 ≤ v) (λ v is. is.0) _ w.prefix.within) w.top;
    }) in
    let closed = subst (λ (ps : Pairs). AllByRecursion (AreFrom ps) f.clauses)
    (sym is.bound) w.closed in
    let front = header f.max_var (length f.clauses) ++ flat_map set is.sets ++ flat_map clause f.clauses in
    let k = split_at ts front token.End [] is.spelled in
    ap read k.3
    ∙ ap result_of (leads_reads (leads_lists h is.sets f.clauses w.numbers w.count good closed (omega arith)) k.0 k.4
    ((token.End, k.1) ∷ k.2))
    ∙ ap result_of (read-one row (Between h (pairs is.sets) f.clauses) (token.End, k.1) k.2
    ∙ ap (λ (r : Row). after row r (token.End, k.1) k.2) (end_row h (pairs is.sets) f.clauses (omega arith)))
    ∙ ap (λ (bs : List Block). Ok (record { max_var = f.max_var; blocks = bs; clauses = f.clauses }))
    (ap blocks_of is.bound ∙ blocks_of-pairs f.blocks w.prefix.alternates)

-- The tokens before a state lead to it.
leads_between : {ts : List Token} {h : Heading} {ps : Pairs} {cs : Clauses} → Spells ts (Between h ps cs)
    → Leads row AtP ts (Between h ps cs)
leads_between {h = h} {ps = ps} {cs = cs} e = grind (arith, common_steps, leads_lists)

spelled_leads : (ts : List Token) (state : State) → Spells ts state → Leads row AtP ts state
spelled_leads ts (InHeader place.P) e = rw e.0 Stays
spelled_leads ts (InHeader place.Format) e = rw e.0 (Passes refl Stays)
spelled_leads ts (InHeader place.First) e = rw e.0 (Passes refl (Passes refl Stays))
spelled_leads ts (InHeader (place.Second v)) e = rw e.0 (leads_vars v e.1)
spelled_leads ts (Between h ps cs) e = leads_between e
spelled_leads ts (InSet h ps q) e =
    let good : AreGood h.max_var (pairs e.0 ++ map (λ v. (q, v)) e.1) = rw e.3 e.4.good in
    let front = good_front h.max_var (pairs e.0) (map (λ v. (q, v)) e.1) good in
    rw (e.2, ← e.3) (leads_then (leads_then (leads_header h e.4.max_var e.4.count) (leads_sets h [] e.0 front))
    (leads_unfinished_set h (pairs e.0) q e.1 good))
spelled_leads ts (InClause h ps cs ls) e = rw e.1 (leads_then (leads_between (e.0, refl, e.2, e.3))
    (leads_unfinished_clause h ps e.3.good cs ls e.4 e.5 e.6))
spelled_leads ts (Whole f) e = absurd e

-- A fault that stands is the one that is found.
pub fault_is_found : (ts : List Lined) (f : FormulaFault) (line : ℕ) → IsFault ts f line → read ts ≡ Err (f, line)
fault_is_found ts f line is =
    ap read is.whole
    ∙ ap result_of (leads_reads (spelled_leads (without_lines is.before) is.state is.stands) is.before refl ((is.wrong, line) ∷ is.after))
    ∙ ap result_of (read-one row is.state (is.wrong, line) is.after ∙ ap (λ (r : Row). after row r (is.wrong, line) is.after) is.refused)

-- Tokens read as nothing else.
pub read_once : ReadsOnce Reads read
read_once ts h' h = grind (arith, common_steps, spelled_is_read, fault_is_found)
