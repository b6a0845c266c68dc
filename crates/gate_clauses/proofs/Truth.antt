-- The formula in clauses is true exactly if the formula of gates is.
use Rattle.gate_clauses.proofs.Cited.{◌≡◌, ℕ, List, [], ◌∷◌, ◌++◌, ◌∙◌, inl, inr, refl, sym, ap, subst}
use Rattle.gate_clauses.proofs.Cited.{Literal, positive, negative, negated, ◌∈◌, ◌⊆◌, IsClean, MatrixHolds, IsTrueFrom, Quantifier, All, Exists, pairs}
use Rattle.gate_clauses.proofs.Cited.{blocks_of, variables, Gate, GateFormula, IsWellFormed, gate_names, names, IsTrueGates}
use Rattle.gate_clauses.proofs.Cited.{OutputHolds, with_gates, gate_clauses, gate_pairs}
use Rattle.qbf_core.proofs.BlockLaws.{pairs-blocks_of}
use Rattle.qbf_core.proofs.Bound.{apart_of, Distinct}
use Rattle.qbf_core.proofs.Game.{Leaf, leaf_keeps, wins_weaker}
use Rattle.qbf_core.proofs.Inferences.{true_if_won, won_if_true}
use Rattle.qbf_core.specs.Rules.{Cubes}
use Rattle.qbf_core.proofs.Leaves.{leaf_is_clean}
use Rattle.qbf_core.proofs.Members.{append_left, append_right, in_append}
use Rattle.gate_clauses.specs.Laws.{EncodingKeepsTheTruth}
use Rattle.gate_clauses.proofs.Gates.{AreAllSet, any_there, gates_forced, gates_found, gates_hold, gates_leaf, gates_set, true_with_gates}
use Rattle.gate_clauses.proofs.Gates.{with_gates_within}
use Rattle.gate_clauses.proofs.Values.{either_of}

-- ---- a prefix, and then another

truth_weaker : (ps : List (Quantifier × ℕ)) (s : List Literal) (end other : List Literal → Type 0)
    → ((t : List Literal) → Leaf ps s t → end t → other t) → IsTrueFrom ps end s → IsTrueFrom ps other s
truth_weaker ps s end other f is = true_if_won ps other s (wins_weaker Cubes ps s end other f (won_if_true ps end s is))

truth_apart : (ps rest : List (Quantifier × ℕ)) (end : List Literal → Type 0) (s : List Literal)
    → IsTrueFrom (ps ++ rest) end s → IsTrueFrom ps (λ t. IsTrueFrom rest end t) s
truth_apart [] rest end s is = is
truth_apart ((Exists, v) ∷ ps) rest end s (inl is) = inl (truth_apart ps rest end (positive v ∷ s) is)
truth_apart ((Exists, v) ∷ ps) rest end s (inr is) = inr (truth_apart ps rest end (negative v ∷ s) is)
truth_apart ((All, v) ∷ ps) rest end s is =
    (truth_apart ps rest end (positive v ∷ s) is.0, truth_apart ps rest end (negative v ∷ s) is.1)

truth_joined : (ps rest : List (Quantifier × ℕ)) (end : List Literal → Type 0) (s : List Literal)
    → IsTrueFrom ps (λ t. IsTrueFrom rest end t) s → IsTrueFrom (ps ++ rest) end s
truth_joined [] rest end s is = is
truth_joined ((Exists, v) ∷ ps) rest end s (inl is) = inl (truth_joined ps rest end (positive v ∷ s) is)
truth_joined ((Exists, v) ∷ ps) rest end s (inr is) = inr (truth_joined ps rest end (negative v ∷ s) is)
truth_joined ((All, v) ∷ ps) rest end s is =
    (truth_joined ps rest end (positive v ∷ s) is.0, truth_joined ps rest end (negative v ∷ s) is.1)

leaf_joined : (ps rest : List (Quantifier × ℕ)) (s t u : List Literal) → Leaf ps s t → Leaf rest t u → Leaf (ps ++ rest) s u
leaf_joined [] rest s t u e below = subst (λ (x : List Literal). Leaf rest x u) (sym e) below
leaf_joined ((q, v) ∷ ps) rest s t u (inl above) below = inl (leaf_joined ps rest (positive v ∷ s) t u above below)
leaf_joined ((q, v) ∷ ps) rest s t u (inr above) below = inr (leaf_joined ps rest (negative v ∷ s) t u above below)

leaf_sets : (ps : List (Quantifier × ℕ)) (s t : List Literal) → Leaf ps s t → AreAllSet (variables ps) t
leaf_sets [] s t below v h = absurd h
leaf_sets ((q, w) ∷ ps) s t (inl below) v (inl e) =
    inl (leaf_keeps ps (positive w ∷ s) t below (positive v) (inl (ap positive e)))
leaf_sets ((q, w) ∷ ps) s t (inr below) v (inl e) =
    inr (leaf_keeps ps (negative w ∷ s) t below (negative v) (inl (ap negative e)))
leaf_sets ((q, w) ∷ ps) s t (inl below) v (inr h) = leaf_sets ps (positive w ∷ s) t below v h
leaf_sets ((q, w) ∷ ps) s t (inr below) v (inr h) = leaf_sets ps (negative w ∷ s) t below v h

-- ---- the variables of the formula in clauses

pub gate_variables : (gates : List (ℕ × Gate)) → variables (gate_pairs gates) ≡ gate_names gates
gate_variables [] = refl
gate_variables (g ∷ gates) = ap (λ (vs : List ℕ). g.0 ∷ vs) (gate_variables gates)

pub variables_joined : (ps rest : List (Quantifier × ℕ)) → variables (ps ++ rest) ≡ variables ps ++ variables rest
variables_joined [] rest = refl
variables_joined (p ∷ ps) rest = ap (λ (vs : List ℕ). p.1 ∷ vs) (variables_joined ps rest)

pub all_variables : (q : GateFormula) → variables (pairs q.blocks ++ gate_pairs q.gates) ≡ names q
all_variables q =
    variables_joined (pairs q.blocks) (gate_pairs q.gates)
    ∙ ap (λ (vs : List ℕ). variables (pairs q.blocks) ++ vs) (gate_variables q.gates)

module _ (q : GateFormula) (sound : IsWellFormed q) where
  pub apart : Distinct (variables (pairs (blocks_of (pairs q.blocks ++ gate_pairs q.gates))))
  apart = subst (λ (rest : List (Quantifier × ℕ)). Distinct (variables rest)) (sym (pairs-blocks_of (pairs q.blocks ++ gate_pairs q.gates)))
      (subst (λ (vs : List ℕ). Distinct vs) (sym (all_variables q)) (apart_of (names q) sound.distinct))

  clean_below : (t u : List Literal) → Leaf (pairs q.blocks) [] t → Leaf (gate_pairs q.gates) t u → IsClean u
  clean_below t u above below = leaf_is_clean (blocks_of (pairs q.blocks ++ gate_pairs q.gates)) u apart
      (subst (λ (rest : List (Quantifier × ℕ)). Leaf rest [] u) (sym (pairs-blocks_of (pairs q.blocks ++ gate_pairs q.gates)))
      (leaf_joined (pairs q.blocks) (gate_pairs q.gates) [] t u above below))

  matrix_of_output : (t : List Literal) → Leaf (pairs q.blocks) [] t → OutputHolds q t
      → MatrixHolds (gate_clauses q.gates ++ (q.output ∷ []) ∷ []) (with_gates q.gates t)
  matrix_of_output t above holds c h = elim (in_append (gate_clauses q.gates) ((q.output ∷ []) ∷ []) c h) [
    | inl k ↦ gates_hold (variables (pairs q.blocks)) q.gates t (leaf_sets (pairs q.blocks) [] t above) sound.order
        (clean_below t (with_gates q.gates t) above (gates_leaf q.gates t)) c k
    | inr (inl e) ↦ (q.output, subst (λ (x : List Literal). q.output ∈ x) (sym e) (inl refl), holds)
    | inr (inr none) ↦ absurd none
  ]

  output_of_matrix : (t : List Literal) → Leaf (pairs q.blocks) [] t
      → IsTrueFrom (gate_pairs q.gates) (MatrixHolds (gate_clauses q.gates ++ (q.output ∷ []) ∷ [])) t → OutputHolds q t
  output_of_matrix t above is =
      let holds : MatrixHolds (gate_clauses q.gates ++ (q.output ∷ []) ∷ []) (with_gates q.gates t) =
      gates_forced (variables (pairs q.blocks)) q.gates (gate_clauses q.gates ++ (q.output ∷ []) ∷ []) t
      (leaf_sets (pairs q.blocks) [] t above) sound.order (λ u below. clean_below t u above below)
      (λ c h. append_left (gate_clauses q.gates) ((q.output ∷ []) ∷ []) c h) is in
      only (holds (q.output ∷ []) (append_right (gate_clauses q.gates) ((q.output ∷ []) ∷ []) (q.output ∷ []) (inl refl)))
    where
      only : (l : Literal) × (l ∈ (q.output ∷ [])) × (l ∈ with_gates q.gates t) → q.output ∈ with_gates q.gates t
      only (l, inl e, h) = subst (λ (x : Literal). x ∈ with_gates q.gates t) e h
      only (l, inr none, h) = absurd none

  pub truth_of_gates : IsTrueFrom (pairs q.blocks ++ gate_pairs q.gates) (MatrixHolds (gate_clauses q.gates ++ (q.output ∷ []) ∷ [])) []
      → IsTrueGates q
  truth_of_gates is = truth_weaker (pairs q.blocks) [] _ (OutputHolds q) output_of_matrix
      (truth_apart (pairs q.blocks) (gate_pairs q.gates) (MatrixHolds (gate_clauses q.gates ++ (q.output ∷ []) ∷ [])) [] is)

  pub gates_of_truth : IsTrueGates q
      → IsTrueFrom (pairs q.blocks ++ gate_pairs q.gates) (MatrixHolds (gate_clauses q.gates ++ (q.output ∷ []) ∷ [])) []
  gates_of_truth is =
      truth_joined (pairs q.blocks) (gate_pairs q.gates) (MatrixHolds (gate_clauses q.gates ++ (q.output ∷ []) ∷ [])) []
      (truth_weaker (pairs q.blocks) [] (OutputHolds q) _
      (λ t above holds. true_with_gates q.gates (MatrixHolds (gate_clauses q.gates ++ (q.output ∷ []) ∷ [])) t
      (matrix_of_output t above holds)) is)

pub encoding_keeps_the_truth : EncodingKeepsTheTruth
encoding_keeps_the_truth q top sound =
    let same = pairs-blocks_of (pairs q.blocks ++ gate_pairs q.gates) in
    let end : List Literal → Type 0 = MatrixHolds (gate_clauses q.gates ++ (q.output ∷ []) ∷ []) in (
      (λ is. subst (λ (rest : List (Quantifier × ℕ)). IsTrueFrom rest end []) (sym same) (gates_of_truth q sound is)),
      (λ is. truth_of_gates q sound (subst (λ (rest : List (Quantifier × ℕ)). IsTrueFrom rest end []) same is)),
    )

-- ---- among more literals

-- if variables have these values, and the matrix holds among more literals, the output holds
pub output_found : (q : GateFormula) (s u : List Literal) → IsWellFormed q → s ⊆ u → IsClean u → AreAllSet (variables (pairs q.blocks)) s
    → AreAllSet (gate_names q.gates) u → MatrixHolds (gate_clauses q.gates ++ (q.output ∷ []) ∷ []) u → OutputHolds q s
output_found q s u sound within clean set named holds =
    elim (either_of (with_gates q.gates s) q.output (elim (in_append (variables (pairs q.blocks)) (gate_names q.gates) q.output.var is_name) [
      | inl h ↦ elim (set q.output.var h) [
        | inl p ↦ inl (with_gates_within q.gates s (positive q.output.var) p)
        | inr n ↦ inr (with_gates_within q.gates s (negative q.output.var) n)
      ]
      | inr h ↦ gates_set q.gates s q.output.var h
    ])) [
      | inl yes_it ↦ yes_it
      | inr no_it ↦ absurd (clean q.output out (found (negated q.output) no_it))
    ]
  where
    is_name : q.output.var ∈ names q
    is_name = any_there q.output.var (names q) sound.output

    found : with_gates q.gates s ⊆ u
    found = gates_found (variables (pairs q.blocks)) q.gates s u within clean set sound.order named
        (λ c h. holds c (append_left (gate_clauses q.gates) ((q.output ∷ []) ∷ []) c h))

    only : (l : Literal) × (l ∈ (q.output ∷ [])) × (l ∈ u) → q.output ∈ u
    only (l, inl e, h) = subst (λ (x : Literal). x ∈ u) e h
    only (l, inr none, h) = absurd none

    out : q.output ∈ u
    out = only (holds (q.output ∷ []) (append_right (gate_clauses q.gates) ((q.output ∷ []) ∷ []) (q.output ∷ []) (inl refl)))
