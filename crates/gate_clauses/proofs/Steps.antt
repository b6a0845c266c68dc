-- A formula in clauses, one variable and one gate after the other.
use Rattle.std.proofs.Common.{◌≡◌, ◌+◌, ◌∙◌, ◌++◌, ℕ, List, [], ◌∷◌, Some, take, slice_get, refl, sym, ap, append_assoc, append-nil, add-one, take-suc, Result, Ok, Err, IfOk}
use Rattle.std.proofs.lemmas.Option.{get_or_from_slice_get, slice_get_within}
use Rattle.qbf_core.specs.declared.quantifier.Quantifier.{Quantifier}
use Rattle.qbf_core.specs.declared.quantifier.Quantifier.TheVariants.{Exists}
use Rattle.qbf_core.specs.Literal.{Literal}
use Rattle.qbf_gates.specs.Gates.{Gate}
use Rattle.gate_clauses.specs.Encoding.{clauses_of, encoding, gate_clauses, gate_pairs}
use Rattle.qbf_core.specs.Blocks.{Block, IsPrefix, pairs, variables}
use Rattle.qbf_core.specs.Qbf.{Qbf}
use Rattle.qbf_gates.specs.Gates.{GateFormula, names}
use Rattle.gate_clauses.specs.Begun.{greatest}
use Rattle.gate_clauses.proofs.Closed.{steps_make_the_encoding}

-- one more of a list
pub take_next : {X : Type 0} (xs : List X) (i : ℕ) (x : X) → slice_get xs i ≡ Some x → take (i + 1) xs ≡ take i xs ++ x ∷ []
take_next xs i x at =
    let lt = slice_get_within xs i x at in let e = get_or_from_slice_get xs i x x at in
    rw (add-one) (take-suc xs i x lt ∙ ap (λ y. take i xs ++ y ∷ []) e)

-- the clauses and the variables of one gate more
pub one_gate : (gates : List (ℕ × Gate)) (g : ℕ × Gate) → gate_clauses (gates ++ g ∷ []) ≡ gate_clauses gates ++ clauses_of g.0 g.1
one_gate [] g = append-nil (clauses_of g.0 g.1)
one_gate (h ∷ gates) g =
    ap (λ (cs : List (List Literal)). clauses_of h.0 h.1 ++ cs) (one_gate gates g) ∙ sym (append_assoc (clauses_of h.0 h.1) (gate_clauses gates) (clauses_of g.0 g.1))

pub one_pair : (gates : List (ℕ × Gate)) (g : ℕ × Gate) → gate_pairs (gates ++ g ∷ []) ≡ gate_pairs gates ++ (Exists, g.0) ∷ []
one_pair [] g = refl
one_pair (h ∷ gates) g = ap (λ (ps : List (Quantifier × ℕ)). (Exists, h.0) ∷ ps) (one_pair gates g)

pub bound_next : {X : Type 0} (new mid old xs : List X) (i : ℕ) (x : X) → slice_get xs i ≡ Some x → mid ≡ old ++ take i xs
    → new ≡ mid ++ x ∷ [] → new ≡ old ++ take (i + 1) xs
bound_next new mid old xs i x at was is =
    is ∙ (ap (λ l. l ++ x ∷ []) was ∙ (append_assoc old (take i xs) (x ∷ []) ∙ ap (λ l. old ++ l) (sym (take_next xs i x at))))

pub pairs_next : (new mid old : List (Quantifier × ℕ)) (gates : List (ℕ × Gate)) (i : ℕ) (g : ℕ × Gate) → slice_get gates i ≡ Some g
    → mid ≡ old ++ gate_pairs (take i gates) → new ≡ mid ++ (Exists, g.0) ∷ [] → new ≡ old ++ gate_pairs (take (i + 1) gates)
pairs_next new mid old gates i g at was is =
    is ∙ (ap (λ (l : List (Quantifier × ℕ)). l ++ (Exists, g.0) ∷ []) was
    ∙ (append_assoc old (gate_pairs (take i gates)) ((Exists, g.0) ∷ [])
    ∙ ap (λ (l : List (Quantifier × ℕ)). old ++ l) (sym (ap gate_pairs (take_next gates i g at) ∙ one_pair (take i gates) g))))

pub clauses_next : (new mid old : List (List Literal)) (gates : List (ℕ × Gate)) (i : ℕ) (g : ℕ × Gate) → slice_get gates i ≡ Some g
    → mid ≡ old ++ gate_clauses (take i gates) → new ≡ mid ++ clauses_of g.0 g.1 → new ≡ old ++ gate_clauses (take (i + 1) gates)
clauses_next new mid old gates i g at was is =
    is ∙ (ap (λ (l : List (List Literal)). l ++ clauses_of g.0 g.1) was
    ∙ (append_assoc old (gate_clauses (take i gates)) (clauses_of g.0 g.1)
    ∙ ap (λ (l : List (List Literal)). old ++ l) (sym (ap gate_clauses (take_next gates i g at) ∙ one_gate (take i gates) g))))

-- ---- the whole

whole : (q : GateFormula) (bs : List Block) (cs : List (List Literal)) → pairs bs ≡ pairs q.blocks ++ gate_pairs q.gates
    → cs ≡ gate_clauses q.gates → IsPrefix bs
    → record { max_var = greatest (variables (pairs bs)); blocks = bs; clauses = cs ++ (q.output ∷ []) ∷ [] } ≡ encoding (greatest (names q)) q
whole q bs cs pushed put prefix =
    let made : List (List Literal) → Qbf =
    λ l. record { max_var = greatest (variables (pairs bs)); blocks = bs; clauses = l ++ (q.output ∷ []) ∷ [] } in
    ap made put ∙ steps_make_the_encoding q bs prefix pushed

pub finished : {E : Type 0} (result : Result Qbf E) (q : GateFormula) (bs : List Block) (cs : List (List Literal))
    → pairs bs ≡ pairs q.blocks ++ gate_pairs q.gates → cs ≡ gate_clauses q.gates → IfOk result (λ _. IsPrefix bs)
    → IfOk result (λ f. f ≡ record { max_var = greatest (variables (pairs bs)); blocks = bs; clauses = cs ++ (q.output ∷ []) ∷ [] })
    → IfOk result (λ f. f ≡ encoding (greatest (names q)) q)
finished (Ok f) q bs cs pushed put prefix is = is ∙ whole q bs cs pushed put prefix
finished (Err e) q bs cs pushed put prefix is = tt

pub joined : (made mid start prefix blocks : List Block) (some gates : List (ℕ × Gate)) → start ≡ [] → pairs mid ≡ pairs start ++ pairs prefix
    → pairs made ≡ pairs mid ++ gate_pairs some → prefix ≡ blocks → some ≡ gates → pairs made ≡ pairs blocks ++ gate_pairs gates
joined made mid start prefix blocks some gates none bound put same kept =
    let first : pairs mid ≡ pairs blocks = bound ∙ (ap (λ (bs : List Block). pairs bs ++ pairs prefix) none ∙ ap pairs same) in
    put ∙ (ap (λ (ps : List (Quantifier × ℕ)). ps ++ gate_pairs some) first ∙ ap (λ (gs : List (ℕ × Gate)). pairs blocks ++ gate_pairs gs) kept)
