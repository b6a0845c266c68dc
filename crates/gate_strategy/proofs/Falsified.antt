-- A circuit by which the universal player wins the formula in clauses wins the formula of gates: its inputs of gates are free.
use Rattle.gate_clauses.proofs.Cited.{arith, ◌≡◌, ℕ, Bool, true, false, cond, List, [], ◌∷◌, ◌++◌, ◌⊎◌, ◌∙◌, inl, inr, refl, sym, ap, subst, map}
use Rattle.gate_clauses.proofs.Cited.{Literal, negated, ◌∈◌, ◌⊆◌, IsClean, MatrixHolds, Quantifier, All, Exists}
use Rattle.gate_clauses.proofs.Cited.{pairs, variables}
use Rattle.gate_clauses.proofs.Cited.{Gate, GateFormula, IsWellFormed, gate_names, OutputHolds, encoding, gate_clauses, gate_pairs, literal_of}
use Rattle.gate_clauses.proofs.Cited.{gate_value, with_gates}
use Rattle.std.proofs.Common.{append-nil, zero, suc, ◌<◌, ◌≤◌, ◌+◌, ◌-◌, ltb, Some, slice_get, length, take}
use Rattle.std.proofs.lemmas.Bool.{le-ltb, lt-ltb}
use Rattle.std.proofs.lemmas.List.{length-append}
use Rattle.std.proofs.lemmas.Option.{slice_get_within}
use Rattle.std.proofs.Math.Seq.{take-append_seam}
use Rattle.qbf_core.specs.Blocks.{IsBefore, block_in}
use Rattle.qbf_core.proofs.BlockLaws.{pairs-blocks_of}
use Rattle.qbf_core.proofs.Bound.{Distinct, block, block_found, in_bound, pair_var}
use Rattle.qbf_core.proofs.Leaves.{pairs_ascend}
use Rattle.qbf_core.proofs.Members.{append_left, append_right, got_in, in_append, in_got}
use Rattle.qbf_core.proofs.Reduction.{Ascending}
use Rattle.aiger.specs.Circuits.{Circuit, IsRun, first_gate}
use Rattle.aiger.specs.Wires.{Wire, value_at}
use Rattle.qbf_strategy.specs.Winning as clauses
use Rattle.qbf_strategy.specs.Winning.{input_literals, set_in_run, variables_of}
use Rattle.qbf_strategy.proofs.Computed.{exec, exec_below, exec_keeps, started, started_there}
use Rattle.gate_clauses.proofs.Gates.{AreAllSet, gates_hold}
use Rattle.gate_clauses.proofs.Truth.{apart}
use Rattle.aiger.specs.Cutting.{moved, with_inputs}
use Rattle.gate_strategy.specs.Winning.{IsWinningCircuit, without_gates}
use Rattle.gate_strategy.proofs.Cut.{cut_ordered, cut_run, moved_from, moved_kept, moved_literals, moved_names}
use Rattle.qbf_strategy.proofs.TrimmedCircuit.{inputs_same}
use Rattle.gate_clauses.proofs.Closed.{pair_there}
use Rattle.gate_strategy.proofs.Parts.{existential_joined, gates_exist, no_gate_universal, still_there, universal_joined}
use Rattle.qbf_strategy.proofs.Computed.{distinct_clean, in_part, input_at, literal_sets, name_in, output_literals, output_named, output_set}
use Rattle.qbf_strategy.proofs.Computed.{part_of, parts_distinct, vars_append, vars_inputs, vars_of, vars_outputs, whose}

-- ---- inputs

inputs_joined : (n m : ℕ) (xs ys : List ℕ) (run : ℕ → Bool) → m ≡ n + length xs
    → input_literals n (xs ++ ys) run ≡ input_literals n xs run ++ input_literals m ys run
inputs_joined n m [] ys run e = let k : n ≡ m = omega arith in ap (λ (i : ℕ). input_literals i ys run) k
inputs_joined n m (x ∷ xs) ys run e =
    ap (λ (ls : List Literal). literal_of x (run n) ∷ ls) (inputs_joined (suc n) m xs ys run (omega (arith, e)))

outputs_same : (outs : List (ℕ × Wire)) (run other : ℕ → Bool)
    → ((o : ℕ × Wire) → o ∈ outs → value_at run o.1 ≡ value_at other o.1)
    → output_literals outs run ≡ output_literals outs other
outputs_same [] run other same = refl
outputs_same (o ∷ outs) run other same =
    ap (λ (b : Bool). literal_of o.0 b ∷ output_literals outs run) (same o (inl refl))
    ∙ ap (λ (ls : List Literal). literal_of o.0 (value_at other o.1) ∷ ls) (outputs_same outs run other (λ p h. same p (inr h)))

-- an input is one of the first, or of the others
first_or_other : (xs ys : List ℕ) (i u : ℕ) → slice_get (xs ++ ys) i ≡ Some u → (slice_get xs i ≡ Some u) ⊎ (u ∈ ys)
first_or_other [] ys i u here = inr (got_in ys i u here)
first_or_other (x ∷ xs) ys zero u here = inl here
first_or_other (x ∷ xs) ys (suc i) u here = first_or_other xs ys i u here

-- ---- the values of gates

-- the values of gates, one after the other
abbrev gate_values : List (ℕ × Gate) → List Literal → ℕ → Bool
gate_values [] s i = false
gate_values (g ∷ gates) s zero = gate_value g.1 s
gate_values (g ∷ gates) s (suc i) = gate_values gates (literal_of g.0 (gate_value g.1 s) ∷ s) i

-- if inputs have them, they are set with these inputs
computed_among : (n : ℕ) (gates : List (ℕ × Gate)) (s : List Literal) (run : ℕ → Bool)
    → ((i : ℕ) → i < length gates → run (n + i) ≡ gate_values gates s i)
    → (l : Literal) → l ∈ with_gates gates s → (l ∈ s) ⊎ (l ∈ input_literals n (gate_names gates) run)
computed_among n [] s run is l h = inl h
computed_among n (g ∷ gates) s run is l h = elim (computed_among (suc n) gates (literal_of g.0 (gate_value g.1 s) ∷ s) run later l h) [
  | inl (inl e) ↦ inr (inl (e ∙ ap (λ (b : Bool). literal_of g.0 b) (sym here)))
  | inl (inr k) ↦ inl k
  | inr k ↦ inr (inr k)
]
  where
    here : run n ≡ gate_value g.1 s
    here = let k : n + 0 ≡ n = omega arith in subst (λ (m : ℕ). run m ≡ gate_value g.1 s) k (is 0 (omega arith))

    later : (i : ℕ) → i < length gates → run (suc n + i) ≡ gate_values gates (literal_of g.0 (gate_value g.1 s) ∷ s) i
    later i less =
        let k : n + suc i ≡ suc n + i = omega arith in
        subst (λ (m : ℕ). run m ≡ gate_values gates (literal_of g.0 (gate_value g.1 s) ∷ s) i) k (is (suc i) (omega (arith, less)))

-- ---- blocks

ascend_across : (number : ℕ → ℕ) (ps rest : List (Quantifier × ℕ)) (p r : Quantifier) (v u : ℕ) → Ascending number (ps ++ rest)
    → (p, v) ∈ ps → (r, u) ∈ rest → number v ≤ number u
ascend_across number [] rest p r v u up h k = absurd h
ascend_across number ((q, w) ∷ ps) rest p r v u up (inl e) k =
    let var_of : Quantifier × ℕ → ℕ = λ a. a.1 in
    subst (λ (x : ℕ). number x ≤ number u) (sym (ap var_of e)) (up.0 r u (append_right ps rest (r, u) k))
ascend_across number ((q, w) ∷ ps) rest p r v u up (inr h) k = ascend_across number ps rest p r v u up.1 h k

gate_pair : (gates : List (ℕ × Gate)) (u : ℕ) → u ∈ gate_names gates → (Exists, u) ∈ gate_pairs gates
gate_pair [] u h = absurd h
gate_pair (g ∷ gates) u (inl e) = inl (let with_it : ℕ → Quantifier × ℕ = λ n. (Exists, n) in ap with_it e)
gate_pair (g ∷ gates) u (inr h) = inr (gate_pair gates u h)

names_count : (gates : List (ℕ × Gate)) → length (gate_names gates) ≡ length gates
names_count [] = refl
names_count (g ∷ gates) = ap suc (names_count gates)

module _ (q : GateFormula) (top : ℕ) (sound : IsWellFormed q) where
  -- no gate is in an earlier block than a bound variable
  gate_not_before : (u v : ℕ) → u ∈ gate_names q.gates → v ∈ variables (pairs q.blocks) → IsBefore (encoding top q).blocks u v → ⊥
  gate_not_before u v h k before =
      let number : ℕ → ℕ = block (encoding top q).blocks in
      let same = pairs-blocks_of (pairs q.blocks ++ gate_pairs q.gates) in
      let up : Ascending number (pairs q.blocks ++ gate_pairs q.gates) =
      subst (λ (ps : List (Quantifier × ℕ)). Ascending number ps) same (pairs_ascend (encoding top q).blocks (apart q sound)) in
      let of_v = pair_there (pairs q.blocks) v k in
      let of_u = gate_pair q.gates u h in
      let found : (r : Quantifier) (x : ℕ) → (r, x) ∈ (pairs q.blocks ++ gate_pairs q.gates)
      → block_in x (encoding top q).blocks ≡ Some (number x) =
      λ r x m. block_found (encoding top q).blocks x (in_bound (pairs (encoding top q).blocks) r x
      (subst (λ (ps : List (Quantifier × ℕ)). (r, x) ∈ ps) (sym same) m)) in
      let less : number u < number v =
      before (number u) (number v) (found Exists u (append_right (pairs q.blocks) (gate_pairs q.gates) (Exists, u) of_u))
      (found of_v.0 v (append_left (pairs q.blocks) (gate_pairs q.gates) (of_v.0, v) of_v.1)) in
      let not_less : number v ≤ number u = ascend_across number (pairs q.blocks) (gate_pairs q.gates) of_v.0 Exists v u up of_v.1 of_u in
      omega (arith, less, not_less)

module _ (q : GateFormula) (top : ℕ) (c : Circuit) (sound : IsWellFormed q) (w : clauses.IsWinningCircuit All (encoding top q) c) where
  -- the variables of the existential player, and how many they are
  abbrev theirs : List ℕ
  theirs = variables_of Exists (pairs q.blocks)

  abbrev kept : ℕ
  kept = length theirs

  inputs_are : c.inputs ≡ theirs ++ gate_names q.gates
  inputs_are =
      w.inputs
      ∙ (ap (λ (ps : List (Quantifier × ℕ)). variables_of Exists ps) (pairs-blocks_of (pairs q.blocks ++ gate_pairs q.gates))
      ∙ (existential_joined (pairs q.blocks) (gate_pairs q.gates)
      ∙ ap (λ (vs : List ℕ). variables_of Exists (pairs q.blocks) ++ vs) (gates_exist q.gates)))

  outputs_are : map (λ o. o.0) c.outputs ≡ variables_of All (pairs q.blocks)
  outputs_are =
      w.outputs
      ∙ (ap (λ (ps : List (Quantifier × ℕ)). variables_of All ps) (pairs-blocks_of (pairs q.blocks ++ gate_pairs q.gates))
      ∙ (universal_joined (pairs q.blocks) (gate_pairs q.gates)
      ∙ (ap (λ (vs : List ℕ). variables_of All (pairs q.blocks) ++ vs) (no_gate_universal q.gates)
      ∙ append-nil (variables_of All (pairs q.blocks)))))

  count : length c.inputs ≡ kept + length q.gates
  count = ap length inputs_are ∙ length-append theirs (gate_names q.gates) ∙ ap (λ (n : ℕ). kept + n) (names_count q.gates)

  -- outputs depend on inputs of bound variables in earlier blocks alone
  same_outputs : (run again : ℕ → Bool) → IsRun c run → IsRun c again → (o : ℕ × Wire) → o ∈ c.outputs
      → ((i u : ℕ) → slice_get theirs i ≡ Some u → IsBefore q.blocks u o.0 → run (suc i) ≡ again (suc i))
      → value_at run o.1 ≡ value_at again o.1
  same_outputs run again is_run is_again o h same = w.causal run again is_run is_again o h
      (λ i u here before. by i u (first_or_other theirs (gate_names q.gates) i u
      (subst (λ (vs : List ℕ). slice_get vs i ≡ Some u) inputs_are here)) before)
    where
      bound : o.0 ∈ variables (pairs q.blocks)
      bound =
          let p = in_part All (pairs q.blocks) o.0 (subst (λ (vs : List ℕ). o.0 ∈ vs) outputs_are (name_in c.outputs o h)) in
          pair_var (pairs q.blocks) p.0 o.0 p.1

      by : (i u : ℕ) → (slice_get theirs i ≡ Some u) ⊎ (u ∈ gate_names q.gates) → IsBefore (encoding top q).blocks u o.0
          → run (suc i) ≡ again (suc i)
      by i u (inl at) before =
          same i u at (λ a b a_is b_is. before a b (still_there q top u a sound a_is) (still_there q top o.0 b sound b_is))
      by i u (inr gate) before = absurd (gate_not_before q top sound u o.0 gate bound before)

  module _ (run : ℕ → Bool) (is_run : IsRun c run) where
    -- what is set without gates
    abbrev s : List Literal
    s = output_literals c.outputs run ++ input_literals 1 theirs run

    -- the inputs of gates as they are computed
    abbrev values : ℕ → Bool
    values n = cond (ltb kept n) (gate_values q.gates s (n - suc kept)) (run n)

    abbrev again : ℕ → Bool
    again = (w.runs values).0

    is_again : IsRun c again
    is_again = (w.runs values).1

    same_bound : (n : ℕ) → 1 ≤ n → n ≤ kept → again n ≡ run n
    same_bound n some few =
        let all = count in
        (w.runs values).2 n some (omega (arith, few, all))
        ∙ (let t : ltb kept n ≡ false = le-ltb kept n few in rw t refl)

    of_gates : (i : ℕ) → i < length q.gates → again (suc kept + i) ≡ gate_values q.gates s i
    of_gates i less =
        let all = count in
        let k : suc kept + i - suc kept ≡ i = omega arith in
        let t : ltb kept (suc kept + i) ≡ true = lt-ltb kept (suc kept + i) (omega arith) in
        (w.runs values).2 (suc kept + i) (omega arith) (omega (arith, less, all))
        ∙ (rw t (ap (λ (n : ℕ). gate_values q.gates s n) k))

    abbrev u : List Literal
    u = set_in_run c again

    s_again : s ≡ output_literals c.outputs again ++ input_literals 1 theirs again
    s_again =
        ap (λ (ls : List Literal). ls ++ input_literals 1 theirs run)
        (outputs_same c.outputs run again (λ o h. same_outputs run again is_run is_again o h
        (λ i x here before. sym (same_bound (suc i) (omega arith) (let less = slice_get_within theirs i x here in omega (arith, less))))))
        ∙ ap (λ (ls : List Literal). output_literals c.outputs again ++ ls)
        (inputs_same 1 theirs run again (λ k some few. sym (same_bound k some (omega (arith, few)))))

    inputs_again : input_literals 1 c.inputs again
        ≡ input_literals 1 theirs again ++ input_literals (suc kept) (gate_names q.gates) again
    inputs_again =
        ap (λ (vs : List ℕ). input_literals 1 vs again) inputs_are
        ∙ inputs_joined 1 (suc kept) theirs (gate_names q.gates) again (omega arith)

    of_inputs : (l : Literal) → l ∈ (input_literals 1 theirs again ++ input_literals (suc kept) (gate_names q.gates) again) → l ∈ u
    of_inputs l h =
        append_right (output_literals c.outputs again) (input_literals 1 c.inputs again) l
        (subst (λ (ls : List Literal). l ∈ ls) (sym inputs_again) h)

    s_within : s ⊆ u
    s_within l h =
        elim (in_append (output_literals c.outputs again) (input_literals 1 theirs again) l (subst (λ (ls : List Literal). l ∈ ls) s_again h)) [
          | inl k ↦ append_left (output_literals c.outputs again) (input_literals 1 c.inputs again) l k
          | inr k ↦ of_inputs l
              (append_left (input_literals 1 theirs again) (input_literals (suc kept) (gate_names q.gates) again) l k)
        ]

    within : with_gates q.gates s ⊆ u
    within l h = elim (computed_among (suc kept) q.gates s again of_gates l h) [
      | inl k ↦ s_within l k
      | inr k ↦ of_inputs l (append_right (input_literals 1 theirs again) (input_literals (suc kept) (gate_names q.gates) again) l k)
    ]

    vars_are : vars_of u ≡ variables_of All (pairs (encoding top q).blocks) ++ variables_of Exists (pairs (encoding top q).blocks)
    vars_are =
        vars_append (output_literals c.outputs again) (input_literals 1 c.inputs again)
        ∙ (ap (λ (vs : List ℕ). vs ++ vars_of (input_literals 1 c.inputs again)) (vars_outputs c.outputs again ∙ w.outputs)
        ∙ ap (λ (vs : List ℕ). variables_of All (pairs (encoding top q).blocks) ++ vs) (vars_inputs 1 c.inputs again ∙ w.inputs))

    u_clean : IsClean u
    u_clean = distinct_clean u
        (subst (λ vs. Distinct vs) (sym vars_are) (parts_distinct All (pairs (encoding top q).blocks) (apart q sound)))

    all_set : AreAllSet (variables (pairs q.blocks)) s
    all_set v h =
        let p = pair_there (pairs q.blocks) v h in
        elim (whose All p.0) [
          | inl my ↦
              let named = output_named c.outputs v
              (subst (λ vs. v ∈ vs) (sym outputs_are) (part_of All p.0 (pairs q.blocks) v p.1 my.0)) in
              literal_sets s v (value_at run named.0.1) (subst (λ n. literal_of n (value_at run named.0.1) ∈ s) named.2
              (append_left (output_literals c.outputs run) (input_literals 1 theirs run)
              (literal_of named.0.0 (value_at run named.0.1)) (output_set c.outputs run named.0 named.1)))
          | inr other ↦
              let at = in_got theirs v (part_of Exists p.0 (pairs q.blocks) v p.1 other.1) in
              literal_sets s v (run (suc at.0))
              (append_right (output_literals c.outputs run) (input_literals 1 theirs run)
              (literal_of v (run (suc at.0))) (input_at theirs run at.0 v at.1))
        ]

    matrix : OutputHolds q s → MatrixHolds (gate_clauses q.gates ++ (q.output ∷ []) ∷ []) u
    matrix holds d h = elim (in_append (gate_clauses q.gates) ((q.output ∷ []) ∷ []) d h) [
      | inl k ↦
          let t = gates_hold (variables (pairs q.blocks)) q.gates s all_set sound.order
          (λ l a b. u_clean l (within l a) (within (negated l) b)) d k in
          (t.0, t.1, within t.0 t.2)
      | inr (inl e) ↦ (q.output, subst (λ (x : List Literal). q.output ∈ x) (sym e) (inl refl), within q.output holds)
      | inr (inr none) ↦ absurd none
    ]

    pub falsified : OutputHolds q s → ⊥
    falsified holds = w.wins again is_again (matrix holds)

  -- ---- without the inputs of gates

  abbrev cut : Circuit
  cut = with_inputs kept c

  pub few : kept ≤ length c.inputs
  few = let all = count in omega (arith, all)

  cut_inputs : cut.inputs ≡ theirs
  cut_inputs = ap (λ (vs : List ℕ). take kept vs) inputs_are ∙ take-append_seam theirs (gate_names q.gates)

  abbrev whole : (ℕ → Bool) → ℕ → Bool
  whole run k = run (moved kept (length c.inputs) k)

  set_same : (run : ℕ → Bool) → set_in_run cut run ≡ output_literals c.outputs (whole run) ++ input_literals 1 theirs (whole run)
  set_same run =
      ap (λ (ls : List Literal). ls ++ input_literals 1 cut.inputs run) (moved_literals kept (length c.inputs) c.outputs run)
      ∙ ap (λ (ls : List Literal). output_literals c.outputs (whole run) ++ ls)
      (ap (λ (vs : List ℕ). input_literals 1 vs run) cut_inputs
      ∙ inputs_same 1 theirs run (whole run)
      (λ k some less. ap run (sym (moved_kept kept (length c.inputs) k (omega (arith, less))))))

  abbrev first_run : (ℕ → Bool) → ℕ → Bool
  first_run values = exec (first_gate cut) cut.gates (started values)

  pub wins_without_inputs : IsWinningCircuit All q (without_gates All q c)
  wins_without_inputs = record {
    inputs = cut_inputs;
    outputs = moved_names kept (length c.inputs) c.outputs ∙ outputs_are;
    ordered = cut_ordered kept c few w.ordered;
    runs = λ values. (
      first_run values,
      record {
        constant = exec_below (first_gate cut) cut.gates (started values) 0 (omega arith);
        keeps = exec_keeps (first_gate cut) cut.gates (started values) (cut_ordered kept c few w.ordered).gates;
      },
      λ n some less. exec_below (first_gate cut) cut.gates (started values) n (omega (arith, less)) ∙ started_there values n some,
    );
    wins = λ run is_run holds. falsified (whole run) (cut_run kept c few run is_run)
        (subst (λ (ls : List Literal). OutputHolds q ls) (set_same run) holds);
    causal = causal_by;
  }
    where
      causal_by : (run again : ℕ → Bool) → IsRun cut run → IsRun cut again → (o : ℕ × Wire) → o ∈ cut.outputs
          → ((i u : ℕ) → slice_get cut.inputs i ≡ Some u → IsBefore q.blocks u o.0 → run (suc i) ≡ again (suc i))
          → value_at run o.1 ≡ value_at again o.1
      causal_by run again is_run is_again o h same =
          let from = moved_from kept (length c.inputs) c.outputs o h in
          subst (λ (p : ℕ × Wire). ((i u : ℕ) → slice_get cut.inputs i ≡ Some u → IsBefore q.blocks u p.0 → run (suc i) ≡ again (suc i))
          → value_at run p.1 ≡ value_at again p.1) (sym from.2)
          (λ those. same_outputs (whole run) (whole again) (cut_run kept c few run is_run) (cut_run kept c few again is_again) from.0 from.1
          (λ i u here before.
          let less = slice_get_within theirs i u here in
          let e : moved kept (length c.inputs) (suc i) ≡ suc i = moved_kept kept (length c.inputs) (suc i) (omega (arith, less)) in
          ap run e
          ∙ (those i u (subst (λ (vs : List ℕ). slice_get vs i ≡ Some u) (sym cut_inputs) here) before
          ∙ ap again (sym e))))
          same
