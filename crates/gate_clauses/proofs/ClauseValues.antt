-- The clauses of a gate hold exactly if its variable has the value of the gate.
use Rattle.gate_clauses.proofs.Cited.{◌≡◌, ℕ, Bool, true, false, cond, not, beq, List, [], ◌∷◌, ◌∙◌, inl, inr, refl, sym, ap, map}
use Rattle.gate_clauses.proofs.Cited.{subst, false≢true, Literal, positive, negative, negated, ◌∈◌, ClauseHolds, MatrixHolds}
use Rattle.gate_clauses.proofs.Cited.{Gate, And, Or, Xor, Ite, inputs_of, are_set, gate_value, is_set, clauses_of}
use Rattle.gate_clauses.proofs.SetTests.{all_is, any_is, any_set}
use Rattle.qbf_completeness.proofs.Setting.{in_set, set_in}

-- ---- clauses as tests

both_of : (b c : Bool) → cond b c false ≡ true → (b ≡ true) × (c ≡ true)
both_of true c e = (refl, e)
both_of false c e = absurd (false≢true e)

of_both : (b c : Bool) → b ≡ true → c ≡ true → cond b c false ≡ true
of_both true c e g = g
of_both false c e g = e

pub clause_true : (c s : List Literal) → any_set c s ≡ true → ClauseHolds c s
clause_true [] s e = absurd (false≢true e)
clause_true (l ∷ ls) s e = by (is_set l s) (set_in l s) (clause_true ls s) e
  where
    by : (b : Bool) → (b ≡ true → l ∈ s) → (any_set ls s ≡ true → ClauseHolds ls s) → cond b true (any_set ls s) ≡ true
        → ClauseHolds (l ∷ ls) s
    by true here later t = (l, inl refl, here refl)
    by false here later t = let w = later t in (w.0, inr w.1, w.2)

pub true_clause : (c s : List Literal) → ClauseHolds c s → any_set c s ≡ true
true_clause [] s (m, h, k) = absurd h
true_clause (l ∷ ls) s (m, inl e, k) = rw (in_set l s (subst (λ (x : Literal). x ∈ s) e k)) refl
true_clause (l ∷ ls) s (m, inr h, k) = by (is_set l s) (true_clause ls s (m, h, k))
  where
    by : (b : Bool) → any_set ls s ≡ true → cond b true (any_set ls s) ≡ true
    by true e = refl
    by false e = e

abbrev pub all_hold : List (List Literal) → List Literal → Bool
all_hold [] s = true
all_hold (c ∷ cs) s = cond (any_set c s) (all_hold cs s) false

pub matrix_true : (cs : List (List Literal)) (s : List Literal) → all_hold cs s ≡ true → MatrixHolds cs s
matrix_true [] s e c h = absurd h
matrix_true (d ∷ cs) s e c (inl is) =
    subst (λ (x : List Literal). ClauseHolds x s) (sym is) (clause_true d s (both_of (any_set d s) (all_hold cs s) e).0)
matrix_true (d ∷ cs) s e c (inr h) = matrix_true cs s (both_of (any_set d s) (all_hold cs s) e).1 c h

pub true_matrix : (cs : List (List Literal)) (s : List Literal) → MatrixHolds cs s → all_hold cs s ≡ true
true_matrix [] s holds = refl
true_matrix (c ∷ cs) s holds =
    of_both (any_set c s) (all_hold cs s) (true_clause c s (holds c (inl refl))) (true_matrix cs s (λ d h. holds d (inr h)))

-- ---- tables

and_table : (x a : Bool) → cond (cond x true (not a)) (cond x a true) false ≡ beq x a
and_table true true = refl
and_table true false = refl
and_table false true = refl
and_table false false = refl

or_table : (x o : Bool) → cond (cond (not x) true o) (cond x true (not o)) false ≡ beq x o
or_table true true = refl
or_table true false = refl
or_table false true = refl
or_table false false = refl

xor_table : (x a b : Bool)
    → cond (cond (not x) true (cond a true (cond b true false)))
    (cond (cond (not x) true (cond (not a) true (cond (not b) true false)))
    (cond (cond x true (cond (not a) true (cond b true false)))
    (cond (cond x true (cond a true (cond (not b) true false))) true false) false) false) false
    ≡ beq x (cond a (not b) b)
xor_table true true true = refl
xor_table true true false = refl
xor_table true false true = refl
xor_table true false false = refl
xor_table false true true = refl
xor_table false true false = refl
xor_table false false true = refl
xor_table false false false = refl

ite_table : (x a b c : Bool)
    → cond (cond (not x) true (cond (not a) true (cond b true false)))
    (cond (cond (not x) true (cond a true (cond c true false)))
    (cond (cond x true (cond (not a) true (cond (not b) true false)))
    (cond (cond x true (cond a true (cond (not c) true false)))
    (cond (cond (not x) true (cond b true (cond c true false)))
    (cond (cond x true (cond (not b) true (cond (not c) true false))) true false) false) false) false) false) false
    ≡ beq x (cond a b c)
ite_table true true true true = refl
ite_table true true true false = refl
ite_table true true false true = refl
ite_table true true false false = refl
ite_table true false true true = refl
ite_table true false true false = refl
ite_table true false false true = refl
ite_table true false false false = refl
ite_table false true true true = refl
ite_table false true true false = refl
ite_table false true false true = refl
ite_table false true false false = refl
ite_table false false true true = refl
ite_table false false true false = refl
ite_table false false false true = refl
ite_table false false false false = refl

-- ---- wide gates

-- the negation of l has the other value
abbrev pub IsOpposed : List Literal → Literal → Type 0
IsOpposed s l = is_set (negated l) s ≡ not (is_set l s)

any_negated : (ls s : List Literal) → ((l : Literal) → l ∈ ls → IsOpposed s l) → any_set (map negated ls) s ≡ not (are_set ls s)
any_negated [] s opposed = refl
any_negated (l ∷ ls) s opposed =
    ap (λ (b : Bool). cond b true (any_set (map negated ls) s)) (opposed l (inl refl))
    ∙ (ap (λ (b : Bool). cond (not (is_set l s)) true b) (any_negated ls s (λ m h. opposed m (inr h)))
    ∙ by (is_set l s) (are_set ls s))
  where
    by : (b c : Bool) → cond (not b) true (not c) ≡ not (cond b c false)
    by true true = refl
    by true false = refl
    by false true = refl
    by false false = refl

each_follows : (v : ℕ) (x : Bool) (ls s : List Literal) → is_set (negative v) s ≡ not x
    → all_hold (map (λ l. negative v ∷ l ∷ []) ls) s ≡ cond x (are_set ls s) true
each_follows v x [] s other = none x
  where
    none : (x : Bool) → true ≡ cond x true true
    none true = refl
    none false = refl
each_follows v x (l ∷ ls) s other =
    ap (λ (b : Bool). cond (cond b true (cond (is_set l s) true false)) (all_hold (map (λ l. negative v ∷ l ∷ []) ls) s) false) other
    ∙ (ap (λ (b : Bool). cond (cond (not x) true (cond (is_set l s) true false)) b false) (each_follows v x ls s other)
    ∙ by x (is_set l s) (are_set ls s))
  where
    by : (x b c : Bool) → cond (cond (not x) true (cond b true false)) (cond x c true) false ≡ cond x (cond b c false) true
    by true true c = refl
    by true false c = refl
    by false b c = refl

each_refutes : (v : ℕ) (ls s : List Literal) → ((l : Literal) → l ∈ ls → IsOpposed s l)
    → all_hold (map (λ l. positive v ∷ negated l ∷ []) ls) s ≡ cond (is_set (positive v) s) true (not (any_set ls s))
each_refutes v [] s opposed = by (is_set (positive v) s)
  where
    by : (x : Bool) → true ≡ cond x true true
    by true = refl
    by false = refl
each_refutes v (l ∷ ls) s opposed =
    ap (λ (b : Bool). cond (cond (is_set (positive v) s) true (cond b true false))
    (all_hold (map (λ l. positive v ∷ negated l ∷ []) ls) s) false) (opposed l (inl refl))
    ∙ (ap (λ (b : Bool). cond (cond (is_set (positive v) s) true (cond (not (is_set l s)) true false)) b false)
    (each_refutes v ls s (λ m h. opposed m (inr h)))
    ∙ by (is_set (positive v) s) (is_set l s) (any_set ls s))
  where
    by : (x b c : Bool)
        → cond (cond x true (cond (not b) true false)) (cond x true (not c)) false ≡ cond x true (not (cond b true c))
    by true b c = refl
    by false true c = refl
    by false false c = refl

-- ---- the clauses of a gate

pub gate_holds : (v : ℕ) (g : Gate) (s : List Literal) → IsOpposed s (positive v) → ((l : Literal) → l ∈ inputs_of g → IsOpposed s l)
    → all_hold (clauses_of v g) s ≡ beq (is_set (positive v) s) (gate_value g s)
gate_holds v (And ls) s own opposed =
    ap (λ (b : Bool). cond (cond (is_set (positive v) s) true b) (all_hold (map (λ l. negative v ∷ l ∷ []) ls) s) false)
    (any_negated ls s opposed)
    ∙ (ap (λ (b : Bool). cond (cond (is_set (positive v) s) true (not (are_set ls s))) b false)
    (each_follows v (is_set (positive v) s) ls s own)
    ∙ (and_table (is_set (positive v) s) (are_set ls s) ∙ ap (beq (is_set (positive v) s)) (sym (all_is ls s))))
gate_holds v (Or ls) s own opposed =
    ap (λ (b : Bool). cond (cond b true (any_set ls s)) (all_hold (map (λ l. positive v ∷ negated l ∷ []) ls) s) false) own
    ∙ (ap (λ (b : Bool). cond (cond (not (is_set (positive v) s)) true (any_set ls s)) b false) (each_refutes v ls s opposed)
    ∙ (or_table (is_set (positive v) s) (any_set ls s) ∙ ap (beq (is_set (positive v) s)) (sym (any_is ls s))))
gate_holds v (Xor a b) s own opposed =
    rw (own, opposed a (inl refl), opposed b (inr (inl refl))) (xor_table (is_set (positive v) s) (is_set a s) (is_set b s))
gate_holds v (Ite a b c) s own opposed =
    rw (own, opposed a (inl refl), opposed b (inr (inl refl)), opposed c (inr (inr (inl refl))))
    (ite_table (is_set (positive v) s) (is_set a s) (is_set b s) (is_set c s))
