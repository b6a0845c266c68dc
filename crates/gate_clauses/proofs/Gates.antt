-- Gates that are evaluated one after the other, and their variables as a player sets them.
use Rattle.gate_clauses.proofs.Cited.{◌≡◌, ℕ, Bool, true, false, beq, List, [], ◌∷◌, ◌⊎◌, ◌∙◌, inl, inr, refl, sym, ap}
use Rattle.gate_clauses.proofs.Cited.{subst, eqb, eqb_tells, list_any, AllByRecursion, Literal, positive, negative, ◌∈◌, ◌⊆◌}
use Rattle.gate_clauses.proofs.Cited.{IsClean, MatrixHolds, IsTrueFrom, Quantifier, Exists, literal_of}
use Rattle.gate_clauses.proofs.Cited.{gate_names}
use Rattle.gate_clauses.proofs.Cited.{Gate, IsOf, StandInOrder, inputs_of, gate_value, is_set, with_gates, clauses_of, gate_clauses, gate_pairs}
use Rattle.qbf_core.proofs.Bound.{all_in}
use Rattle.qbf_core.proofs.Members.{append_left, append_right, beq_same, beq_refl, in_append}
use Rattle.qbf_core.proofs.Game.{Leaf, leaf_keeps}
use Rattle.qbf_completeness.proofs.Setting.{in_set}
use Rattle.gate_clauses.proofs.Values.{IsEither, either_of, kept_either, kept_value, negated_value, out_set, same_gate}
use Rattle.gate_clauses.proofs.ClauseValues.{all_hold, gate_holds, matrix_true, true_matrix}

-- each of these variables is set
abbrev pub AreAllSet : List ℕ → List Literal → Type 0
AreAllSet known s = (v : ℕ) → v ∈ known → (positive v ∈ s) ⊎ (negative v ∈ s)

pub any_there : (v : ℕ) (vs : List ℕ) → list_any (λ w. eqb v w) vs ≡ true → v ∈ vs
any_there v [] e = absurd (cc e)
any_there v (w ∷ vs) e = elim (eqb_tells v w) [
  | inl (t, is) ↦ inl is
  | inr (f, _) ↦ (let h : list_any (λ w. eqb v w) vs ≡ true = rw f at e in inr (any_there v vs h))
]

-- so each input is set
pub inputs_set : (known : List ℕ) (g : Gate) (s : List Literal) → AreAllSet known s → AllByRecursion (IsOf known) (inputs_of g)
    → (l : Literal) → l ∈ inputs_of g → IsEither s l
inputs_set known g s all stand l h = either_of s l (all l.var (any_there l.var known (all_in (IsOf known) (inputs_of g) stand l h)))

-- one variable more
pub one_more_set : (known : List ℕ) (v : ℕ) (b : Bool) (s : List Literal) → AreAllSet known s → AreAllSet (v ∷ known) (literal_of v b ∷ s)
one_more_set known v true s all w (inl e) = inl (inl (ap positive e))
one_more_set known v false s all w (inl e) = inr (inl (ap negative e))
one_more_set known v b s all w (inr h) = elim (all w h) [ inl p ↦ inl (inr p) | inr n ↦ inr (inr n) ]

literal_value : (v : ℕ) (b : Bool) (u : List Literal) → IsClean u → literal_of v b ∈ u → is_set (positive v) u ≡ b
literal_value v true u clean h = in_set (positive v) u h
literal_value v false u clean h = out_set (positive v) u (λ k. clean (positive v) k h)

literal_either : (v : ℕ) (b : Bool) (u : List Literal) → literal_of v b ∈ u → IsEither u (positive v)
literal_either v true u h = inl h
literal_either v false u h = inr h

-- among more literals the clauses of a gate hold exactly if its variable has the value of the gate
pub gate_among : (v : ℕ) (g : Gate) (b : Bool) (s u : List Literal) → s ⊆ u → IsClean u → literal_of v b ∈ u
    → ((l : Literal) → l ∈ inputs_of g → IsEither s l)
    → all_hold (clauses_of v g) u ≡ beq b (gate_value g s)
gate_among v g b s u within clean here set =
    gate_holds v g u (negated_value u (positive v) clean (literal_either v b u here))
    (λ l h. negated_value u l clean (kept_either s u l within (set l h)))
    ∙ (ap (λ (x : Bool). beq x (gate_value g u)) (literal_value v b u clean here)
    ∙ ap (λ (x : Bool). beq b x) (same_gate g s u (λ l h. kept_value s u l within clean (set l h))))

-- ---- evaluated

pub with_gates_within : (gates : List (ℕ × Gate)) (s : List Literal) → s ⊆ with_gates gates s
with_gates_within [] s l h = h
with_gates_within (g ∷ gates) s l h = with_gates_within gates (literal_of g.0 (gate_value g.1 s) ∷ s) l (inr h)

step_leaf : (v : ℕ) (b : Bool) (rest : List (Quantifier × ℕ)) (s t : List Literal) → Leaf rest (literal_of v b ∷ s) t
    → Leaf ((Exists, v) ∷ rest) s t
step_leaf v true rest s t below = inl below
step_leaf v false rest s t below = inr below

-- the values of gates are one of the ways to set their variables
pub gates_leaf : (gates : List (ℕ × Gate)) (s : List Literal) → Leaf (gate_pairs gates) s (with_gates gates s)
gates_leaf [] s = refl
gates_leaf (g ∷ gates) s =
    step_leaf g.0 (gate_value g.1 s) (gate_pairs gates) s (with_gates gates (literal_of g.0 (gate_value g.1 s) ∷ s))
    (gates_leaf gates (literal_of g.0 (gate_value g.1 s) ∷ s))

-- then all clauses of gates hold
pub gates_hold : (known : List ℕ) (gates : List (ℕ × Gate)) (s : List Literal) → AreAllSet known s → StandInOrder known gates
    → IsClean (with_gates gates s) → MatrixHolds (gate_clauses gates) (with_gates gates s)
gates_hold known [] s all order clean c h = absurd h
gates_hold known (g ∷ gates) s all order clean c h =
    let next : List Literal = literal_of g.0 (gate_value g.1 s) ∷ s in
    let end : List Literal = with_gates gates next in
    elim (in_append (clauses_of g.0 g.1) (gate_clauses gates) c h) [
      | inl k ↦ matrix_true (clauses_of g.0 g.1) end
          (gate_among g.0 g.1 (gate_value g.1 s) s end (λ l m. with_gates_within gates next l (inr m)) clean
          (with_gates_within gates next (literal_of g.0 (gate_value g.1 s)) (inl refl)) (inputs_set known g.1 s all order.0)
          ∙ beq_refl (gate_value g.1 s)) c k
      | inr k ↦ gates_hold (g.0 ∷ known) gates next (one_more_set known g.0 (gate_value g.1 s) s all) order.1 clean c k
    ]

-- ---- set by a player

step_true : (v : ℕ) (b : Bool) (rest : List (Quantifier × ℕ)) (end : List Literal → Type 0) (s : List Literal)
    → IsTrueFrom rest end (literal_of v b ∷ s) → IsTrueFrom ((Exists, v) ∷ rest) end s
step_true v true rest end s is = inl is
step_true v false rest end s is = inr is

-- who sets them as they are evaluated brings about what holds then
pub true_with_gates : (gates : List (ℕ × Gate)) (end : List Literal → Type 0) (s : List Literal) → end (with_gates gates s)
    → IsTrueFrom (gate_pairs gates) end s
true_with_gates [] end s is = is
true_with_gates (g ∷ gates) end s is =
    step_true g.0 (gate_value g.1 s) (gate_pairs gates) end s (true_with_gates gates end (literal_of g.0 (gate_value g.1 s) ∷ s) is)

-- one way in which they are set
some_leaf : (gates : List (ℕ × Gate)) (end : List Literal → Type 0) (s : List Literal) → IsTrueFrom (gate_pairs gates) end s
    → (t : List Literal) × Leaf (gate_pairs gates) s t × end t
some_leaf [] end s is = (s, refl, is)
some_leaf (g ∷ gates) end s (inl is) = let w = some_leaf gates end (positive g.0 ∷ s) is in (w.0, inl w.1, w.2)
some_leaf (g ∷ gates) end s (inr is) = let w = some_leaf gates end (negative g.0 ∷ s) is in (w.0, inr w.1, w.2)

-- the first variable has the value of its gate
forced : (known : List ℕ) (g : ℕ × Gate) (gates : List (ℕ × Gate)) (all : List (List Literal)) (s : List Literal) (b : Bool)
    → AreAllSet known s → AllByRecursion (IsOf known) (inputs_of g.1)
    → ((u : List Literal) → Leaf (gate_pairs gates) (literal_of g.0 b ∷ s) u → IsClean u)
    → ((c : List Literal) → c ∈ clauses_of g.0 g.1 → c ∈ all)
    → IsTrueFrom (gate_pairs gates) (MatrixHolds all) (literal_of g.0 b ∷ s) → gate_value g.1 s ≡ b
forced known g gates all s b known_set order clean within is =
    let w = some_leaf gates (MatrixHolds all) (literal_of g.0 b ∷ s) is in
    let keeps = leaf_keeps (gate_pairs gates) (literal_of g.0 b ∷ s) w.0 w.1 in
    let holds : all_hold (clauses_of g.0 g.1) w.0 ≡ true = true_matrix (clauses_of g.0 g.1) w.0 (λ c h. w.2 c (within c h)) in
    sym (beq_same b (gate_value g.1 s)
    (sym (gate_among g.0 g.1 b s w.0 (λ l h. keeps l (inr h)) (clean w.0 w.1) (keeps (literal_of g.0 b) (inl refl))
    (inputs_set known g.1 s known_set order)) ∙ holds))

-- who brings it about that the clauses of gates hold sets them as they are evaluated
pub gates_forced : (known : List ℕ) (gates : List (ℕ × Gate)) (all : List (List Literal)) (s : List Literal)
    → AreAllSet known s → StandInOrder known gates
    → ((u : List Literal) → Leaf (gate_pairs gates) s u → IsClean u)
    → ((c : List Literal) → c ∈ gate_clauses gates → c ∈ all)
    → IsTrueFrom (gate_pairs gates) (MatrixHolds all) s → MatrixHolds all (with_gates gates s)
gates_forced known [] all s known_set order clean within is = is
gates_forced known (g ∷ gates) all s known_set order clean within is = elim is [
  | inl yes_is ↦ by true (λ u below. clean u (inl below)) yes_is
      (gates_forced (g.0 ∷ known) gates all (positive g.0 ∷ s) (one_more_set known g.0 true s known_set) order.1
      (λ u below. clean u (inl below)) (λ c h. within c (append_right (clauses_of g.0 g.1) (gate_clauses gates) c h)) yes_is)
  | inr no_is ↦ by false (λ u below. clean u (inr below)) no_is
      (gates_forced (g.0 ∷ known) gates all (negative g.0 ∷ s) (one_more_set known g.0 false s known_set) order.1
      (λ u below. clean u (inr below)) (λ c h. within c (append_right (clauses_of g.0 g.1) (gate_clauses gates) c h)) no_is)
]
  where
    by : (b : Bool) → ((u : List Literal) → Leaf (gate_pairs gates) (literal_of g.0 b ∷ s) u → IsClean u)
        → IsTrueFrom (gate_pairs gates) (MatrixHolds all) (literal_of g.0 b ∷ s)
        → MatrixHolds all (with_gates gates (literal_of g.0 b ∷ s)) → MatrixHolds all (with_gates (g ∷ gates) s)
    by b clean_then then_is later =
        let value : gate_value g.1 s ≡ b =
        forced known g gates all s b known_set order.0 clean_then
        (λ c h. within c (append_left (clauses_of g.0 g.1) (gate_clauses gates) c h)) then_is in
        subst (λ (x : Bool). MatrixHolds all (with_gates gates (literal_of g.0 x ∷ s))) (sym value) later

-- ---- found among more literals

some_value : (v : ℕ) (u : List Literal) → (positive v ∈ u) ⊎ (negative v ∈ u) → (b : Bool) × (literal_of v b ∈ u)
some_value v u (inl h) = (true, h)
some_value v u (inr h) = (false, h)

-- where the clauses of gates hold, the gates have their values
pub gates_found : (known : List ℕ) (gates : List (ℕ × Gate)) (s u : List Literal) → s ⊆ u → IsClean u → AreAllSet known s
    → StandInOrder known gates → AreAllSet (gate_names gates) u → MatrixHolds (gate_clauses gates) u → with_gates gates s ⊆ u
gates_found known [] s u within clean set order named holds = within
gates_found known (g ∷ gates) s u within clean set order named holds =
    let own = some_value g.0 u (named g.0 (inl refl)) in
    let value : own.0 ≡ gate_value g.1 s =
    beq_same own.0 (gate_value g.1 s)
    (sym (gate_among g.0 g.1 own.0 s u within clean own.1 (inputs_set known g.1 s set order.0))
    ∙ true_matrix (clauses_of g.0 g.1) u (λ c h. holds c (append_left (clauses_of g.0 g.1) (gate_clauses gates) c h))) in
    let there : literal_of g.0 (gate_value g.1 s) ∈ u = subst (λ (b : Bool). literal_of g.0 b ∈ u) value own.1 in
    gates_found (g.0 ∷ known) gates (literal_of g.0 (gate_value g.1 s) ∷ s) u (both_within there) clean
    (one_more_set known g.0 (gate_value g.1 s) s set) order.1 (λ v h. named v (inr h))
    (λ c h. holds c (append_right (clauses_of g.0 g.1) (gate_clauses gates) c h))
  where
    both_within : literal_of g.0 (gate_value g.1 s) ∈ u → (literal_of g.0 (gate_value g.1 s) ∷ s) ⊆ u
    both_within there l (inl e) = subst (λ (m : Literal). m ∈ u) (sym e) there
    both_within there l (inr h) = within l h

literal_sets : (v : ℕ) (b : Bool) (u : List Literal) → literal_of v b ∈ u → (positive v ∈ u) ⊎ (negative v ∈ u)
literal_sets v true u h = inl h
literal_sets v false u h = inr h

-- each gate is set
pub gates_set : (gates : List (ℕ × Gate)) (s : List Literal) → AreAllSet (gate_names gates) (with_gates gates s)
gates_set [] s v h = absurd h
gates_set (g ∷ gates) s v (inl e) =
    let next : List Literal = literal_of g.0 (gate_value g.1 s) ∷ s in
    subst (λ (w : ℕ). (positive w ∈ with_gates gates next) ⊎ (negative w ∈ with_gates gates next)) (sym e)
    (literal_sets g.0 (gate_value g.1 s) (with_gates gates next)
    (with_gates_within gates next (literal_of g.0 (gate_value g.1 s)) (inl refl)))
gates_set (g ∷ gates) s v (inr h) = gates_set gates (literal_of g.0 (gate_value g.1 s) ∷ s) v h
