-- Circuits with the first inputs alone, and their runs.
use Rattle.std.proofs.Common.{arith, ◌≡◌, ◌<◌, ◌≤◌, ◌+◌, ◌-◌, ℕ, suc, Bool, ltb, List, [], ◌∷◌, refl, sym, ap, subst}
use Rattle.std.proofs.Common.{◌∙◌, length, map, inl, inr}
use Rattle.std.proofs.lemmas.Bool.{le-ltb, lt-ltb, ltb-false, ltb-true, cases_Bool}
use Rattle.std.proofs.lemmas.List.{length-take-le}
use Rattle.std.specs.List.{AllByRecursion}
use Rattle.qbf_core.specs.Literal.{Literal}
use Rattle.qbf_core.specs.Members.{◌∈◌}
use Rattle.qbf_completeness.specs.Strategies.{literal_of}
use Rattle.aiger.specs.declared.circuit.Gate.{Gate}
use Rattle.aiger.specs.Circuits.{Circuit, IsOrdered, IsRun, KeepsGates, StandBelow, first_gate}
use Rattle.aiger.specs.Wires.{Wire, value_at}
use Rattle.aiger.specs.Cutting.{moved, moved_gate, moved_output, with_inputs}
use Rattle.qbf_strategy.proofs.Computed.{output_literals}

-- ---- numbers

pub moved_kept : (kept all n : ℕ) → n ≤ kept → moved kept all n ≡ n
moved_kept kept all n few = rw (le-ltb kept n few) refl

moved_out : (kept all n : ℕ) → kept < n → n ≤ all → moved kept all n ≡ 0
moved_out kept all n some few = rw (lt-ltb kept n some, le-ltb all n few) refl

moved_past : (kept all n : ℕ) → kept < n → all < n → moved kept all n ≡ n - (all - kept)
moved_past kept all n some more = rw (lt-ltb kept n some, lt-ltb all n more) refl

moved_at : (kept all n m : ℕ) → kept ≤ all → all < n → m + all ≡ n + kept → moved kept all n ≡ m
moved_at kept all n m few past e = moved_past kept all n (omega arith) past ∙ (let k : n - (all - kept) ≡ m = omega arith in k)

moved_less : (kept all n m x : ℕ) → kept ≤ all → all < n → m + all ≡ n + kept → x < n → moved kept all x < m
moved_less kept all n m x few past e less = elim (cases_Bool (ltb kept x)) [
  | inr f ↦ (let small : x ≤ kept = ltb-false kept x f in
      subst (λ (y : ℕ). y < m) (sym (moved_kept kept all x small)) (omega arith))
  | inl t ↦ (let large : kept < x = ltb-true kept x t in elim (cases_Bool (ltb all x)) [
    | inr f ↦ (let small : x ≤ all = ltb-false all x f in
        subst (λ (y : ℕ). y < m) (sym (moved_out kept all x large small)) (omega arith))
    | inl t ↦ (let beyond : all < x = ltb-true all x t in
        subst (λ (y : ℕ). y < m) (sym (moved_past kept all x large beyond)) (omega arith))
  ])
]

-- ---- gates

pub below_moved : (kept all n m : ℕ) (gates : List Gate) → kept ≤ all → all < n → m + all ≡ n + kept → StandBelow n gates
    → StandBelow m (map (moved_gate kept all) gates)
below_moved kept all n m [] few past e below = tt
below_moved kept all n m (g ∷ gates) few past e below = (
  moved_less kept all n m g.left.var few past e below.0,
  moved_less kept all n m g.right.var few past e below.1,
  below_moved kept all (suc n) (suc m) gates few (omega (arith, past)) (omega (arith, e)) below.2,
)

pub keeps_moved : (kept all n m : ℕ) (gates : List Gate) (run : ℕ → Bool) → kept ≤ all → all < n → m + all ≡ n + kept
    → KeepsGates m (map (moved_gate kept all) gates) run → KeepsGates n gates (λ k. run (moved kept all k))
keeps_moved kept all n m [] run few past e keeps = tt
keeps_moved kept all n m (g ∷ gates) run few past e keeps = (
  ap run (moved_at kept all n m few past e) ∙ keeps.0,
  keeps_moved kept all (suc n) (suc m) gates run few (omega (arith, past)) (omega (arith, e)) keeps.1,
)

-- ---- outputs

pub moved_names : (kept all : ℕ) (outs : List (ℕ × Wire)) → map (λ o. o.0) (map (moved_output kept all) outs) ≡ map (λ o. o.0) outs
moved_names kept all [] = refl
moved_names kept all (o ∷ outs) = ap (λ (ns : List ℕ). o.0 ∷ ns) (moved_names kept all outs)

pub moved_literals : (kept all : ℕ) (outs : List (ℕ × Wire)) (run : ℕ → Bool)
    → output_literals (map (moved_output kept all) outs) run ≡ output_literals outs (λ k. run (moved kept all k))
moved_literals kept all [] run = refl
moved_literals kept all (o ∷ outs) run =
    ap (λ (ls : List Literal). literal_of o.0 (value_at (λ k. run (moved kept all k)) o.1) ∷ ls) (moved_literals kept all outs run)

pub moved_from : (kept all : ℕ) (outs : List (ℕ × Wire)) (o : ℕ × Wire) → o ∈ map (moved_output kept all) outs
    → (p : ℕ × Wire) × (p ∈ outs) × (o ≡ moved_output kept all p)
moved_from kept all [] o h = absurd h
moved_from kept all (p ∷ outs) o (inl e) = (p, inl refl, e)
moved_from kept all (p ∷ outs) o (inr h) = let w = moved_from kept all outs o h in (w.0, inr w.1, w.2)

outputs_below : (kept all n m : ℕ) (outs : List (ℕ × Wire)) → kept ≤ all → all < n → m + all ≡ n + kept
    → AllByRecursion (λ o. o.1.var < n) outs → AllByRecursion (λ o. o.1.var < m) (map (moved_output kept all) outs)
outputs_below kept all n m [] few past e below = tt
outputs_below kept all n m (o ∷ outs) few past e below =
    (moved_less kept all n m o.1.var few past e below.0, outputs_below kept all n m outs few past e below.1)

length_moved : (kept all : ℕ) (gates : List Gate) → length (map (moved_gate kept all) gates) ≡ length gates
length_moved kept all [] = refl
length_moved kept all (g ∷ gates) = ap suc (length_moved kept all gates)

-- ---- the circuit

module _ (kept : ℕ) (c : Circuit) (few : kept ≤ length c.inputs) where
  first_is : first_gate (with_inputs kept c) ≡ suc kept
  first_is = ap suc (length-take-le kept c.inputs few)

  pub cut_ordered : IsOrdered c → IsOrdered (with_inputs kept c)
  cut_ordered ordered = record {
    gates = subst (λ (n : ℕ). StandBelow n (map (moved_gate kept (length c.inputs)) c.gates)) (sym first_is)
        (below_moved kept (length c.inputs) (first_gate c) (suc kept) c.gates few (omega arith) (omega arith) ordered.gates);
    outputs = subst (λ (n : ℕ). AllByRecursion (λ o. o.1.var < n) (map (moved_output kept (length c.inputs)) c.outputs)) total
        (outputs_below kept (length c.inputs) (first_gate c + length c.gates) (suc kept + length c.gates) c.outputs few (omega arith)
        (omega arith) ordered.outputs);
    few = let most = ordered.few in let same = total in omega (arith, most, same, few);
  }
    where
      total : suc kept + length c.gates ≡ first_gate (with_inputs kept c) + length (with_inputs kept c).gates
      total = let f = first_is in let l = length_moved kept (length c.inputs) c.gates in omega arith

  -- a run is one of the whole circuit, where the other inputs are false
  pub cut_run : (run : ℕ → Bool) → IsRun (with_inputs kept c) run → IsRun c (λ k. run (moved kept (length c.inputs) k))
  cut_run run is_run = record {
    constant = ap run (moved_kept kept (length c.inputs) 0 (omega arith)) ∙ is_run.constant;
    keeps = keeps_moved kept (length c.inputs) (first_gate c) (suc kept) c.gates run few (omega arith) (omega arith)
        (subst (λ (n : ℕ). KeepsGates n (map (moved_gate kept (length c.inputs)) c.gates) run) first_is is_run.keeps);
  }
