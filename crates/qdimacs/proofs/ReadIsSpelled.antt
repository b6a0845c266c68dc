-- A formula that is read is spelled, and a fault that is found stands.
use Rattle.qdimacs.proofs.Cited.{common_steps, rules, inl, inr, ◌⊎◌, ◌≡◌, ℕ, ◌≤◌, true, false, List, [], ◌∷◌, ◌++◌, length, Ok, Err, refl}
use Rattle.qdimacs.proofs.Cited.{sym, subst, ◌∙◌, arith, append_assoc, map-append, flat_map, Quantifier, Block, is_bound, blocks_of, Token}
use Rattle.qdimacs.proofs.Cited.{Lined, number, set, without_lines, Ends, append-nil, pairs_of_block, pairs-blocks_of, Alternates-blocks_of}
use Rattle.qdimacs.proofs.Cited.{is_end, push_distinct, flat_map-push, decode_member, header, IsFormula, ReadsAsRead, all_of, explained}
use Rattle.qdimacs.proofs.Cited.{Reads, Goes, Fails, Heading, State, AtP, InHeader, Between, InSet, Whole, Row, row, faults}
use Rattle.qdimacs.proofs.Cited.{set_row, Spells, read, IsWhole, Pairs, Clauses}
use Rattle.dimacs_syntax.proofs.Cited.{IsDistinct}
use Rattle.dimacs_syntax.proofs.Cited.token
use Rattle.qbf_tokens.specs.Lined.{EndsOnce}
use Rattle.qdimacs.proofs.AllVariablesBound.{is_bound_variables}
use Rattle.qbf_text.proofs.AcceptedTokens as accepted
use Rattle.qdimacs.proofs.SpelledIsRead.{read_once}
use Rattle.dimacs_syntax.specs.declared.header.HeaderAt.TheVariants as place

-- ---- one token

count_is : (v : ℕ) (t : Token) (next : State) → row (InHeader (place.Second v)) t ≡ Goes next
    → (n : ℕ) × (t ≡ number n) × (n ≤ 2147483647) × (Between (record { max_var = v; count = n }) [] [] ≡ next)
count_is v t next e = search rules

-- ---- one token more

-- a set goes on with a variable, or is closed
set_goes : (h : Heading) (ps : Pairs) (q : Quantifier) (t : Token) (next : State)
    → set_row h ps q (decode_member faults h.max_var t) ≡ Goes next
    → ((t ≡ number 0) × (next ≡ Between h ps []))
    ⊎ ((v : ℕ) × (t ≡ number v) × (1 ≤ v) × (v ≤ h.max_var) × (is_bound v ps ≡ false) × (next ≡ InSet h (ps ++ (q, v) ∷ []) q))
set_goes h ps q t next e = search rules

set_step : (ts : List Token) (h : Heading) (ps : Pairs) (q : Quantifier) (t : Token) (next : State)
    → Spells ts (InSet h ps q) → set_row h ps q (decode_member faults h.max_var t) ≡ Goes next → Spells (ts ++ t ∷ []) next
set_step ts h ps q t next b e = elim (set_goes h ps q t next e) [
  | inl k ↦
      let s : Block = record { quantifier = q; vars = b.1 } in
      rw (k.1, k.0, b.2) (
        b.0 ++ s ∷ [],
        (simp (flat_map-push, append_assoc)) ∙ sym (append-nil (header h.max_var h.count ++ flat_map set (b.0 ++ s ∷ []))),
        flat_map-push pairs_of_block b.0 s ∙ b.3,
        b.4,
      )
  | inr k ↦ rw (k.5, k.1, b.2) (
    b.0,
    b.1 ++ k.0 ∷ [],
    (simp (map-append, append_assoc)),
    rw (← b.3) (simp (map-append, append_assoc)),
    grind (arith, common_steps, push_distinct, is_bound_variables),
  )
]

-- an accepted token leads to a state that the tokens spell
step : (ts : List Token) (p next : State) (t : Token) → Spells ts p → row p t ≡ Goes next → Spells (ts ++ t ∷ []) next
unfolding IsDistinct
step ts (InHeader (place.Second v)) next t b e =
    let k = count_is v t next e in
    subst (Spells (ts ++ t ∷ [])) k.3 ([], (λ i. b.0 i ++ k.1 i ∷ []), refl, search rules)
step ts (InHeader here) next t b e = search rules
step ts (Between h ps cs) next t b e = grind (arith, common_steps)
step ts (InSet h ps q) next t b e = set_step ts h ps q t next b e
step ts p next t b e = grind (arith, common_steps)

-- ---- the end

whole_formula : (ts : List Token) (h : Heading) (ps : Pairs) (cs : Clauses) → Spells ts (Between h ps cs)
    → h.count ≡ length cs → IsFormula (ts ++ token.End ∷ []) (record { max_var = h.max_var; blocks = blocks_of ps; clauses = cs })
whole_formula ts h ps cs b all = grind (arith, common_steps, pairs-blocks_of, Alternates-blocks_of, all_of)

-- reading ends after whole lists, at the end
record IsLast (p : State) (t : Token) (next : State) : Type 0 where
  h : Heading
  ps : Pairs
  cs : Clauses
  between : p ≡ Between h ps cs
  whole : next ≡ Whole (record { max_var = h.max_var; blocks = blocks_of ps; clauses = cs })
  all : h.count ≤ length cs
  at_end : t ≡ token.End

last : (p next : State) (t : Token) → row p t ≡ Ends tt next → IsLast p t next
last p next t e = search rules

-- reading ends at the end of the text
pub last_is_end : (p next : State) (t : Token) → row p t ≡ Ends tt next → is_end t ≡ true
last_is_end p next t e = search rules

-- the formula that was read there is whole
pub last_is_whole : (p next : State) (t : Token) → row p t ≡ Ends tt next → IsWhole next
last_is_whole p next t e = subst IsWhole (sym (last p next t e).whole) tt

-- ---- the whole

answer : (before : List Lined) (p : State) (t : Lined) (ts : List Lined) → Spells (without_lines before) p → EndsOnce (t ∷ ts)
    → accepted.LeadsOrEnds Spells Reads before t ts
answer before p t ts b once = by (row p t.0) refl
  where
    by : (r : Row) → row p t.0 ≡ r → accepted.LeadsOrEnds Spells Reads before t ts
    by (Goes next) is = inr ((λ e. grind (arith, common_steps)), next, step (without_lines before) p next t.0 b is)
    by (Ends u next) is =
        let k = last p next t.0 is in
        let none : ts ≡ [] = grind (arith, common_steps, k.at_end) in
        let said : Spells (without_lines before) (Between k.h k.ps k.cs) = rw k.between at b in
        let whole = whole_formula (without_lines before) k.h k.ps k.cs said (let f = said.3 in omega (arith, f.few, k.all)) in
        let spelled : without_lines (before ++ t ∷ ts) ≡ without_lines before ++ token.End ∷ [] =
        map-append (λ u. u.0) before (t ∷ ts) ∙ (λ i. without_lines before ++ k.at_end i ∷ without_lines (none i)) in
        inl (Ok (record { max_var = k.h.max_var; blocks = blocks_of k.ps; clauses = k.cs }), rw spelled whole)
    by (Fails f) is =
        inl (Err (f, t.1), record { before = before; wrong = t.0; after = ts; whole = refl; state = p; stands = b; refused = is })

-- A formula that is read is spelled; a fault that is found stands.
pub read_explained : ReadsAsRead Reads read
read_explained = explained Spells Reads read AtP (refl, tt) answer read_once
