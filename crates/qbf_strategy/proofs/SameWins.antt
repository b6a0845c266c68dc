-- A circuit with the same outputs wins the same games.
use Rattle.std.proofs.Common.{arith, ◌≡◌, ◌<◌, ℕ, suc, Bool, List, [], ◌∷◌, ◌++◌, Some, slice_get, refl, sym, ap, subst, ◌∙◌}
use Rattle.std.proofs.Common.{map, inl, inr}
use Rattle.std.proofs.lemmas.Option.{slice_get_within}
use Rattle.qbf_core.specs.Blocks.{Block, IsBefore}
use Rattle.qbf_core.specs.Literal.{Literal}
use Rattle.qbf_core.specs.Members.{◌∈◌}
use Rattle.qbf_core.specs.declared.quantifier.Quantifier.{Quantifier}
use Rattle.qbf_completeness.specs.Strategies.{literal_of}
use Rattle.aiger.specs.Circuits.{Circuit, IsRun, first_gate}
use Rattle.aiger.specs.Trimming.{IsSameCircuit}
use Rattle.aiger.specs.Wires.{Wire, value_at}
use Rattle.qbf_strategy.specs.Winning.{Wins, input_literals, set_in_run}
use Rattle.qbf_strategy.proofs.Computed.{exec, exec_below, exec_keeps, started, started_there}
use Rattle.qbf_strategy.proofs.TrimmedCircuit.{at_place, inputs_same, literals_same}

module _ (mine : Quantifier) (blocks : List Block) (Won : List Literal → Type 0) (c d : Circuit) (same : IsSameCircuit c d)
    (w : Wins mine blocks Won c) where
  -- the run of the one circuit with the inputs of a run of the other
  abbrev first_run : (ℕ → Bool) → ℕ → Bool
  first_run other = exec (first_gate c) c.gates other

  agree : (other : ℕ → Bool) (k : ℕ) → k < first_gate c → first_run other k ≡ other k
  agree other k less = exec_below (first_gate c) c.gates other k less

  is_first : (other : ℕ → Bool) → IsRun d other → IsRun c (first_run other)
  is_first other others = record {
    constant = agree other 0 (omega arith) ∙ others.constant;
    keeps = exec_keeps (first_gate c) c.gates other w.ordered.gates;
  }

  values_are : (other : ℕ → Bool) → IsRun d other
      → map (λ o. value_at other o.1) d.outputs ≡ map (λ o. value_at (first_run other) o.1) c.outputs
  values_are other others =
      same.values (first_run other) other (is_first other others) others (λ k some few. agree other k (omega (arith, few)))

  set_is : (other : ℕ → Bool) → IsRun d other → set_in_run c (first_run other) ≡ set_in_run d other
  set_is other others =
      ap (λ (ls : List Literal). ls ++ input_literals 1 c.inputs (first_run other))
      (literals_same c.outputs d.outputs (first_run other) other same.names (values_are other others))
      ∙ ap (λ (ls : List Literal). map (λ o. literal_of o.0 (value_at other o.1)) d.outputs ++ ls)
      (inputs_same 1 c.inputs (first_run other) other (λ k some few. agree other k (omega (arith, few)))
      ∙ ap (λ (vs : List ℕ). input_literals 1 vs other) (sym same.inputs))

  pub same_wins : Wins mine blocks Won d
  same_wins = record {
    inputs = same.inputs ∙ w.inputs;
    outputs = same.names ∙ w.outputs;
    ordered = same.ordered;
    runs = λ values. (
      exec (first_gate d) d.gates (started values),
      record {
        constant = exec_below (first_gate d) d.gates (started values) 0 (omega arith);
        keeps = exec_keeps (first_gate d) d.gates (started values) same.ordered.gates;
      },
      λ n some few. exec_below (first_gate d) d.gates (started values) n (omega (arith, few)) ∙ started_there values n some,
    );
    wins = λ other others. subst Won (set_is other others) (w.wins (first_run other) (is_first other others));
    causal = causal_by;
  }
    where
      causal_by : (run again : ℕ → Bool) → IsRun d run → IsRun d again → (o : ℕ × Wire) → o ∈ d.outputs
          → ((i u : ℕ) → slice_get d.inputs i ≡ Some u → IsBefore blocks u o.0 → run (suc i) ≡ again (suc i))
          → value_at run o.1 ≡ value_at again o.1
      causal_by run again is_run is_again o h those =
          let there = at_place c.outputs d.outputs o same.names h in
          there.value (first_run run) run (values_are run is_run)
          ∙ (w.causal (first_run run) (first_run again) (is_first run is_run) (is_first again is_again) there.one there.in_it
          (λ i u here before.
          let less = slice_get_within c.inputs i u here in
          agree run (suc i) (omega (arith, less))
          ∙ (those i u (subst (λ (vs : List ℕ). slice_get vs i ≡ Some u) (sym same.inputs) here)
          (subst (λ (n : ℕ). IsBefore blocks u n) (sym there.name) before)
          ∙ sym (agree again (suc i) (omega (arith, less)))))
          ∙ sym (there.value (first_run again) again (values_are again is_again)))
