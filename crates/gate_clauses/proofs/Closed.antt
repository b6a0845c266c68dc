-- The formula in clauses is closed.
use Rattle.gate_clauses.proofs.Cited.{◌≡◌, ℕ, List, [], ◌∷◌, ◌++◌, ◌∙◌, inl, inr, refl, sym, ap, subst, AllByRecursion, eqb, IsDistinct}
use Rattle.gate_clauses.proofs.Cited.{◌∈◌, Quantifier, pairs, blocks_of, variables, Gate, IsOf, StandInOrder}
use Rattle.gate_clauses.proofs.Cited.{gate_names, inputs_of, names, clauses_of, encoding, gate_clauses, gate_pairs}
use Rattle.qbf_core.proofs.BlockLaws.{blocks_of-pairs, pairs-blocks_of}
use Rattle.qbf_core.proofs.Bound.{all_in, in_all, in_bound}
use Rattle.qbf_core.proofs.Cited.{AreBound, Block, IsBound}
use Rattle.qbf_core.proofs.Members.{append_left, append_right}
use Rattle.qbf_core.specs.Qbf.{Qbf}
use Rattle.gate_clauses.specs.Begun.{greatest}
use Rattle.gate_clauses.specs.Laws.{EncodingIsClosed, StepsMakeTheEncoding}
use Rattle.gate_clauses.proofs.Encoded.{both_bound, gate_bound}
use Rattle.gate_clauses.proofs.Gates.{any_there}
use Rattle.gate_clauses.proofs.Truth.{all_variables}

pub pair_there : (ps : List (Quantifier × ℕ)) (v : ℕ) → v ∈ variables ps → (p : Quantifier) × ((p, v) ∈ ps)
pair_there [] v h = absurd h
pair_there ((q, u) ∷ ps) v (inl e) = (q, inl (let g : ℕ → Quantifier × ℕ = λ n. (q, n) in ap g e))
pair_there ((q, u) ∷ ps) v (inr h) = let w = pair_there ps v h in (w.0, inr w.1)

gates_bound : (bs : List Block) (known : List ℕ) (gates : List (ℕ × Gate)) → ((v : ℕ) → v ∈ known → IsBound bs v)
    → ((v : ℕ) → v ∈ gate_names gates → IsBound bs v) → StandInOrder known gates → AllByRecursion (AreBound bs) (gate_clauses gates)
gates_bound bs known [] there named order = tt
gates_bound bs known (g ∷ gates) there named order =
    both_bound bs (clauses_of g.0 g.1) (gate_clauses gates)
    (gate_bound bs g.0 g.1 (named g.0 (inl refl)) (in_all (λ l. IsBound bs l.var) (inputs_of g.1)
    (λ l h. there l.var (any_there l.var known (all_in (IsOf known) (inputs_of g.1) order.0 l h)))))
    (gates_bound bs (g.0 ∷ known) gates later (λ v h. named v (inr h)) order.1)
  where
    later : (v : ℕ) → v ∈ (g.0 ∷ known) → IsBound bs v
    later v (inl e) = subst (λ (w : ℕ). IsBound bs w) (sym e) (named g.0 (inl refl))
    later v (inr h) = there v h

pub encoding_is_closed : EncodingIsClosed
encoding_is_closed q top sound = record {
  distinct = subst (λ (ps : List (Quantifier × ℕ)). IsDistinct eqb (variables ps)) (sym same)
      (subst (λ (vs : List ℕ). IsDistinct eqb vs) (sym (all_variables q)) sound.distinct);
  bound = both_bound (encoding top q).blocks (gate_clauses q.gates) ((q.output ∷ []) ∷ [])
      (gates_bound (encoding top q).blocks (variables (pairs q.blocks)) q.gates
      (λ v h. bound v (append_left (variables (pairs q.blocks)) (gate_names q.gates) v h))
      (λ v h. bound v (append_right (variables (pairs q.blocks)) (gate_names q.gates) v h)) sound.order)
      ((bound q.output.var (any_there q.output.var (names q) sound.output), tt), tt);
}
  where
    same : pairs (blocks_of (pairs q.blocks ++ gate_pairs q.gates)) ≡ pairs q.blocks ++ gate_pairs q.gates
    same = pairs-blocks_of (pairs q.blocks ++ gate_pairs q.gates)

    bound : (v : ℕ) → v ∈ names q → IsBound (encoding top q).blocks v
    bound v h =
        let there : v ∈ variables (pairs (encoding top q).blocks) =
        subst (λ (ps : List (Quantifier × ℕ)). v ∈ variables ps) (sym same) (subst (λ (vs : List ℕ). v ∈ vs) (sym (all_variables q)) h) in
        let p = pair_there (pairs (encoding top q).blocks) v there in
        in_bound (pairs (encoding top q).blocks) p.0 v p.1

pub steps_make_the_encoding : StepsMakeTheEncoding
steps_make_the_encoding q bs prefix pushed =
    let blocks_are : bs ≡ blocks_of (pairs q.blocks ++ gate_pairs q.gates) =
    sym (blocks_of-pairs bs prefix.alternates) ∙ ap blocks_of pushed in
    let names_are : variables (pairs bs) ≡ names q = ap (λ (ps : List (Quantifier × ℕ)). variables ps) pushed ∙ all_variables q in
    let made : ℕ → List Block → Qbf =
    λ top blocks. record { max_var = top; blocks = blocks; clauses = gate_clauses q.gates ++ (q.output ∷ []) ∷ [] } in
    ap (λ (vs : List ℕ). made (greatest vs) bs) names_are ∙ ap (λ (b : List Block). made (greatest (names q)) b) blocks_are
