-- A circuit by which the existential player wins the formula in clauses wins the formula of gates.
use Rattle.gate_clauses.proofs.Cited.{◌≡◌, ℕ, Bool, List, [], ◌∷◌, ◌++◌, ◌∙◌, inl, inr, refl, sym, ap, subst, map}
use Rattle.gate_clauses.proofs.Cited.{Literal, ◌∈◌, ◌⊆◌, IsClean, Quantifier, All, Exists, pairs, variables}
use Rattle.gate_clauses.proofs.Cited.{GateFormula, IsWellFormed, gate_names, OutputHolds, encoding, gate_pairs, literal_of}
use Rattle.std.proofs.Common.{append-nil, zero, suc, ◌<◌, ◌+◌, length, take}
use Rattle.qbf_core.proofs.BlockLaws.{pairs-blocks_of}
use Rattle.qbf_core.proofs.Bound.{Distinct, all_in, in_all}
use Rattle.qbf_core.proofs.Members.{append_left, append_right, in_append, in_got, take_within}
use Rattle.aiger.specs.Circuits.{Circuit, IsOrdered, IsRun, first_gate}
use Rattle.aiger.specs.Wires.{Wire, value_at}
use Rattle.qbf_strategy.specs.Winning as clauses
use Rattle.qbf_strategy.specs.Winning.{input_literals, set_in_run, variables_of}
use Rattle.gate_clauses.proofs.Gates.{AreAllSet}
use Rattle.gate_clauses.proofs.Truth.{apart, output_found}
use Rattle.gate_strategy.specs.Winning.{IsWinningCircuit, without_gates}
use Rattle.qbf_strategy.proofs.Computed.{distinct_clean, input_at, literal_sets, output_literals, output_named, output_set, part_of}
use Rattle.qbf_strategy.proofs.Computed.{parts_distinct, vars_append, vars_inputs, vars_of, vars_outputs, whose}
use Rattle.gate_clauses.proofs.Closed.{pair_there}
use Rattle.gate_strategy.proofs.Parts.{existential_joined, gates_exist, no_gate_universal, still_there, universal_joined}

-- ---- the first outputs

cut_names : (outs : List (ℕ × Wire)) (a b : List ℕ) → map (λ o. o.0) outs ≡ a ++ b → map (λ o. o.0) (take (length a) outs) ≡ a
cut_names [] [] b e = refl
cut_names (o ∷ outs) [] b e = refl
cut_names [] (x ∷ a) b e = absurd (cc e)
cut_names (o ∷ outs) (x ∷ a) b e =
    let first : o.0 ≡ x = cc e in
    let later : map (λ p. p.0) outs ≡ a ++ b = cc e in
    ap (λ (n : ℕ). n ∷ map (λ p. p.0) (take (length a) outs)) first ∙ ap (λ (vs : List ℕ). x ∷ vs) (cut_names outs a b later)

cut_literals : (outs : List (ℕ × Wire)) (k : ℕ) (run : ℕ → Bool) (l : Literal) → l ∈ output_literals (take k outs) run
    → l ∈ output_literals outs run
cut_literals [] zero run l h = h
cut_literals [] (suc k) run l h = h
cut_literals (o ∷ outs) zero run l h = absurd h
cut_literals (o ∷ outs) (suc k) run l (inl e) = inl e
cut_literals (o ∷ outs) (suc k) run l (inr h) = inr (cut_literals outs k run l h)

pub fewer_ordered : (c : Circuit) (n : ℕ) → IsOrdered c → IsOrdered (record c { outputs = take n c.outputs })
fewer_ordered c n ordered = record {
  gates = ordered.gates;
  outputs = in_all (λ o. o.1.var < first_gate c + length c.gates) (take n c.outputs)
      (λ o h. all_in (λ o. o.1.var < first_gate c + length c.gates) c.outputs ordered.outputs o (take_within c.outputs n o h));
  few = ordered.few;
}

module _ (q : GateFormula) (top : ℕ) (c : Circuit) (sound : IsWellFormed q) (w : clauses.IsWinningCircuit Exists (encoding top q) c) where
  inputs_are : c.inputs ≡ variables_of All (pairs q.blocks)
  inputs_are =
      w.inputs
      ∙ (ap (λ (ps : List (Quantifier × ℕ)). variables_of All ps) (pairs-blocks_of (pairs q.blocks ++ gate_pairs q.gates))
      ∙ (universal_joined (pairs q.blocks) (gate_pairs q.gates)
      ∙ (ap (λ (vs : List ℕ). variables_of All (pairs q.blocks) ++ vs) (no_gate_universal q.gates)
      ∙ append-nil (variables_of All (pairs q.blocks)))))

  outputs_are : map (λ o. o.0) c.outputs ≡ variables_of Exists (pairs q.blocks) ++ gate_names q.gates
  outputs_are =
      w.outputs
      ∙ (ap (λ (ps : List (Quantifier × ℕ)). variables_of Exists ps) (pairs-blocks_of (pairs q.blocks ++ gate_pairs q.gates))
      ∙ (existential_joined (pairs q.blocks) (gate_pairs q.gates)
      ∙ ap (λ (vs : List ℕ). variables_of Exists (pairs q.blocks) ++ vs) (gates_exist q.gates)))

  names_are : map (λ o. o.0) (without_gates Exists q c).outputs ≡ variables_of Exists (pairs q.blocks)
  names_are = cut_names c.outputs (variables_of Exists (pairs q.blocks)) (gate_names q.gates) outputs_are

  module _ (run : ℕ → Bool) (is_run : IsRun c run) where
    abbrev s : List Literal
    s = set_in_run (without_gates Exists q c) run

    abbrev u : List Literal
    u = set_in_run c run

    vars_are : vars_of u ≡ variables_of Exists (pairs (encoding top q).blocks) ++ variables_of All (pairs (encoding top q).blocks)
    vars_are =
        vars_append (output_literals c.outputs run) (input_literals 1 c.inputs run)
        ∙ (ap (λ (vs : List ℕ). vs ++ vars_of (input_literals 1 c.inputs run)) (vars_outputs c.outputs run ∙ w.outputs)
        ∙ ap (λ (vs : List ℕ). variables_of Exists (pairs (encoding top q).blocks) ++ vs) (vars_inputs 1 c.inputs run ∙ w.inputs))

    u_clean : IsClean u
    u_clean = distinct_clean u
        (subst (λ vs. Distinct vs) (sym vars_are) (parts_distinct Exists (pairs (encoding top q).blocks) (apart q sound)))

    within : s ⊆ u
    within l h =
        elim (in_append (output_literals (without_gates Exists q c).outputs run) (input_literals 1 c.inputs run) l h) [
          | inl k ↦ append_left (output_literals c.outputs run) (input_literals 1 c.inputs run) l
              (cut_literals c.outputs (length (variables_of Exists (pairs q.blocks))) run l k)
          | inr k ↦ append_right (output_literals c.outputs run) (input_literals 1 c.inputs run) l k
        ]

    all_set : AreAllSet (variables (pairs q.blocks)) s
    all_set v h =
        let p = pair_there (pairs q.blocks) v h in
        elim (whose Exists p.0) [
          | inl my ↦
              let named = output_named (without_gates Exists q c).outputs v
              (subst (λ vs. v ∈ vs) (sym names_are) (part_of Exists p.0 (pairs q.blocks) v p.1 my.0)) in
              literal_sets s v (value_at run named.0.1) (subst (λ n. literal_of n (value_at run named.0.1) ∈ s) named.2
              (append_left (output_literals (without_gates Exists q c).outputs run) (input_literals 1 c.inputs run)
              (literal_of named.0.0 (value_at run named.0.1)) (output_set (without_gates Exists q c).outputs run named.0 named.1)))
          | inr theirs ↦
              let at = in_got c.inputs v (subst (λ vs. v ∈ vs) (sym inputs_are) (part_of All p.0 (pairs q.blocks) v p.1 theirs.1)) in
              literal_sets s v (run (suc at.0))
              (append_right (output_literals (without_gates Exists q c).outputs run) (input_literals 1 c.inputs run)
              (literal_of v (run (suc at.0))) (input_at c.inputs run at.0 v at.1))
        ]

    gates_named : AreAllSet (gate_names q.gates) u
    gates_named v h =
        let named = output_named c.outputs v
        (subst (λ vs. v ∈ vs) (sym outputs_are) (append_right (variables_of Exists (pairs q.blocks)) (gate_names q.gates) v h)) in
        literal_sets u v (value_at run named.0.1) (subst (λ n. literal_of n (value_at run named.0.1) ∈ u) named.2
        (append_left (output_literals c.outputs run) (input_literals 1 c.inputs run)
        (literal_of named.0.0 (value_at run named.0.1)) (output_set c.outputs run named.0 named.1)))

    output_is : OutputHolds q s
    output_is = output_found q s u sound within u_clean all_set gates_named (w.wins run is_run)

  pub wins_gates : IsWinningCircuit Exists q (without_gates Exists q c)
  wins_gates = record {
    inputs = inputs_are;
    outputs = names_are;
    ordered = fewer_ordered c (length (variables_of Exists (pairs q.blocks))) w.ordered;
    runs = w.runs;
    wins = output_is;
    causal = λ run again is_run is_again o h same. w.causal run again is_run is_again o
        (take_within c.outputs (length (variables_of Exists (pairs q.blocks))) o h)
        (λ i v here before. same i v here (λ a b a_is b_is. before a b (still_there q top v a sound a_is) (still_there q top o.0 b sound b_is)));
  }
