-- A well-formed formula of gates is not refused.
use Rattle.gate_clauses.proofs.Cited.{◌≡◌, ℕ, List, [], ◌∷◌, ◌++◌, ◌⊎◌, ◌∙◌, inl, inr, sym, ap, subst, map, IsDistinct}
use Rattle.gate_clauses.proofs.Cited.{Literal, ◌∈◌, Quantifier, pairs, variables, Gate, GateFormula, IsOf, IsWellFormed, StandInOrder}
use Rattle.gate_clauses.proofs.Cited.{gate_names, inputs_of, names, gate_pairs}
use Rattle.std.proofs.Common.{zero, suc, Some, nat_eq, take, slice_get}
use Rattle.qbf_core.proofs.Bound.{Distinct, all_in, apart_of, bound_in, in_all, in_bound, pair_var}
use Rattle.qbf_core.proofs.Cited.{AreBound, Block, IsBound}
use Rattle.qbf_core.proofs.Leaves.{apart_across, apart_right}
use Rattle.qbf_core.proofs.Members.{append_left, append_right, in_append}
use Rattle.gate_clauses.proofs.Closed.{pair_there}
use Rattle.gate_clauses.proofs.Gates.{any_there}
use Rattle.gate_clauses.proofs.Truth.{gate_variables, variables_joined}

-- ---- names that come later

named : {X : Type 0} (name : X → ℕ) (xs : List X) (i : ℕ) (x : X) → slice_get xs i ≡ Some x → name x ∈ map name xs
named name [] i x at = absurd (cc at)
named name (y ∷ xs) zero x at = inl (let is : x ≡ y = cc at in ap name is)
named name (y ∷ xs) (suc i) x at = inr (named name xs i x at)

once : {X : Type 0} (name : X → ℕ) (xs : List X) (i : ℕ) (x : X) → Distinct (map name xs) → slice_get xs i ≡ Some x
    → name x ∈ map name (take i xs) → ⊥
once name [] i x d at h = absurd (cc at)
once name (y ∷ xs) zero x d at h = h
once name (y ∷ xs) (suc i) x d at (inl is) = d.0 (subst (λ v. v ∈ map name xs) is (named name xs i x at))
once name (y ∷ xs) (suc i) x d at (inr h) = once name xs i x d.1 at h

-- a name that comes later is not given yet
not_yet : {X : Type 0} (name : X → ℕ) (old : List ℕ) (xs : List X) (i : ℕ) (x : X) → IsDistinct nat_eq (old ++ map name xs)
    → slice_get xs i ≡ Some x → name x ∈ (old ++ map name (take i xs)) → ⊥
not_yet name old xs i x distinct at h =
    let d = apart_of (old ++ map name xs) distinct in
    elim (in_append old (map name (take i xs)) (name x) h) [
      | inl k ↦ apart_across old (map name xs) (name x) d k (named name xs i x at)
      | inr k ↦ once name xs i x (apart_right old (map name xs) d) at k
    ]

bound_there : (bs : List Block) (vs : List ℕ) (v : ℕ) → variables (pairs bs) ≡ vs → IsBound bs v → v ∈ vs
bound_there bs vs v are bound =
    let found = bound_in (pairs bs) v bound in subst (λ (ws : List ℕ). v ∈ ws) are (pair_var (pairs bs) found.0 v found.1)

there_bound : (bs : List Block) (vs : List ℕ) (v : ℕ) → variables (pairs bs) ≡ vs → v ∈ vs → IsBound bs v
there_bound bs vs v are h =
    let found = pair_there (pairs bs) v (subst (λ (ws : List ℕ). v ∈ ws) (sym are) h) in in_bound (pairs bs) found.0 v found.1

-- ---- variables

pub not_given : (bs : List Block) (old ps : List (Quantifier × ℕ)) (i : ℕ) (p : Quantifier × ℕ) → pairs bs ≡ old ++ take i ps
    → slice_get ps i ≡ Some p → IsBound bs p.1 → IsDistinct nat_eq (variables old ++ variables ps) → ⊥
not_given bs old ps i p are at bound distinct =
    not_yet (λ (q : Quantifier × ℕ). q.1) (variables old) ps i p distinct at
    (bound_there bs (variables old ++ variables (take i ps)) p.1
    (ap (λ (qs : List (Quantifier × ℕ)). variables qs) are ∙ variables_joined old (take i ps)) bound)

-- ---- gates

gates_are : (bs : List Block) (old : List (Quantifier × ℕ)) (gates : List (ℕ × Gate)) → pairs bs ≡ old ++ gate_pairs gates
    → variables (pairs bs) ≡ variables old ++ gate_names gates
gates_are bs old gates are =
    ap (λ (qs : List (Quantifier × ℕ)). variables qs) are
    ∙ (variables_joined old (gate_pairs gates) ∙ ap (λ (vs : List ℕ). variables old ++ vs) (gate_variables gates))

pub gate_not_given : (bs : List Block) (old : List (Quantifier × ℕ)) (gates : List (ℕ × Gate)) (i : ℕ) (g : ℕ × Gate)
    → pairs bs ≡ old ++ gate_pairs (take i gates) → slice_get gates i ≡ Some g → IsBound bs g.0
    → IsDistinct nat_eq (variables old ++ gate_names gates) → ⊥
gate_not_given bs old gates i g are at bound distinct =
    not_yet (λ (h : ℕ × Gate). h.0) (variables old) gates i g distinct at
    (bound_there bs (variables old ++ gate_names (take i gates)) g.0 (gates_are bs old (take i gates) are) bound)

input_known : (known : List ℕ) (gates : List (ℕ × Gate)) (i : ℕ) (g : ℕ × Gate) → StandInOrder known gates → slice_get gates i ≡ Some g
    → (l : Literal) → l ∈ inputs_of g.1 → (l.var ∈ known) ⊎ (l.var ∈ gate_names (take i gates))
input_known known [] i g order at l h = absurd (cc at)
input_known known (f ∷ gates) zero g order at l h =
    let is : g ≡ f = cc at in
    inl (any_there l.var known (all_in (IsOf known) (inputs_of f.1) order.0 l (subst (λ (e : ℕ × Gate). l ∈ inputs_of e.1) is h)))
input_known known (f ∷ gates) (suc i) g order at l h = elim (input_known (f.0 ∷ known) gates i g order.1 at l h) [
  | inl (inl e) ↦ inr (inl e)
  | inl (inr k) ↦ inl k
  | inr k ↦ inr (inr k)
]

pub inputs_known : (bs : List Block) (old : List (Quantifier × ℕ)) (gates : List (ℕ × Gate)) (i : ℕ) (g : ℕ × Gate)
    → pairs bs ≡ old ++ gate_pairs (take i gates) → slice_get gates i ≡ Some g → StandInOrder (variables old) gates
    → AreBound bs (inputs_of g.1)
inputs_known bs old gates i g are at order = in_all (λ l. IsBound bs l.var) (inputs_of g.1)
    (λ l h. there_bound bs (variables old ++ gate_names (take i gates)) l.var (gates_are bs old (take i gates) are)
    (elim (input_known (variables old) gates i g order at l h) [
      | inl k ↦ append_left (variables old) (gate_names (take i gates)) l.var k
      | inr k ↦ append_right (variables old) (gate_names (take i gates)) l.var k
    ]))

-- ---- the output

pub output_known : (bs : List Block) (q : GateFormula) → pairs bs ≡ pairs q.blocks ++ gate_pairs q.gates → IsWellFormed q
    → IsBound bs q.output.var
output_known bs q are sound = there_bound bs (names q) q.output.var (gates_are bs (pairs q.blocks) q.gates are)
    (any_there q.output.var (names q) sound.output)
