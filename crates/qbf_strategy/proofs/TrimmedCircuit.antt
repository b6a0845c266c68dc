-- A circuit with the same outputs computes the same decisions.
use Rattle.std.proofs.Common.{arith, ◌≡◌, ◌<◌, ◌≤◌, ◌+◌, ℕ, suc, Bool, List, [], ◌∷◌, ◌++◌}
use Rattle.std.proofs.Common.{refl}
use Rattle.std.proofs.Common.{sym, ap, ◌∙◌, length, map, inl, inr}
use Rattle.qbf_core.specs.Literal.{Literal}
use Rattle.qbf_core.specs.Members.{◌∈◌}
use Rattle.qbf_core.specs.declared.quantifier.Quantifier.{Quantifier}
use Rattle.qbf_completeness.specs.Strategies.{literal_of}
use Rattle.aiger.specs.Circuits.{Circuit, IsRun, first_gate}
use Rattle.aiger.specs.Trimming.{IsSameCircuit}
use Rattle.aiger.specs.Wires.{Wire, value_at}
use Rattle.qbf_strategy.specs.Computing.{Computes}
use Rattle.qbf_strategy.specs.Decisions.{Decision, decided}
use Rattle.qbf_strategy.specs.Winning.{input_literals, set_in_run}
use Rattle.qbf_strategy.proofs.Computed.{exec, exec_below, exec_keeps}

-- the outputs at one place
pub record AtPlace (os ds : List (ℕ × Wire)) (d : ℕ × Wire) : Type 0 where
  pub one : ℕ × Wire
  pub in_it : one ∈ os
  pub name : d.0 ≡ one.0
  pub value : (run other : ℕ → Bool) → map (λ o. value_at other o.1) ds ≡ map (λ o. value_at run o.1) os
      → value_at other d.1 ≡ value_at run one.1

head_same : {X : Type 0} {x y : X} {xs ys : List X} → x ∷ xs ≡ y ∷ ys → x ≡ y
head_same e = cc e

tail_same : {X : Type 0} {x y : X} {xs ys : List X} → x ∷ xs ≡ y ∷ ys → xs ≡ ys
tail_same e = cc e

pub at_place : (os ds : List (ℕ × Wire)) (d : ℕ × Wire) → map (λ o. o.0) ds ≡ map (λ o. o.0) os → d ∈ ds → AtPlace os ds d
at_place os [] d e h = absurd h
at_place [] (x ∷ ds) d e h = absurd (cc e)
at_place (o ∷ os) (x ∷ ds) d e (inl is) = record {
  one = o;
  in_it = inl refl;
  name = (let name : ℕ × Wire → ℕ = λ p. p.0 in ap name is ∙ head_same e);
  value = λ run other same. (let wire : ℕ × Wire → Wire = λ p. p.1 in ap (λ (w : Wire). value_at other w) (ap wire is) ∙ head_same same);
}
at_place (o ∷ os) (x ∷ ds) d e (inr h) =
    let there = at_place os ds d (tail_same e) h in
    record {
      one = there.one;
      in_it = inr there.in_it;
      name = there.name;
      value = λ run other same. there.value run other (tail_same same);
    }

pub literals_same : (os ds : List (ℕ × Wire)) (run other : ℕ → Bool) → map (λ o. o.0) ds ≡ map (λ o. o.0) os
    → map (λ o. value_at other o.1) ds ≡ map (λ o. value_at run o.1) os
    → map (λ o. literal_of o.0 (value_at run o.1)) os ≡ map (λ o. literal_of o.0 (value_at other o.1)) ds
literals_same [] [] run other names values = refl
literals_same [] (d ∷ ds) run other names values = absurd (cc names)
literals_same (o ∷ os) [] run other names values = absurd (cc names)
literals_same (o ∷ os) (d ∷ ds) run other names values =
    ap (λ (n : ℕ). literal_of n (value_at run o.1) ∷ map (λ o. literal_of o.0 (value_at run o.1)) os) (sym (head_same names))
    ∙ (ap (λ (b : Bool). literal_of d.0 b ∷ map (λ o. literal_of o.0 (value_at run o.1)) os) (sym (head_same values))
    ∙ ap (λ (ls : List Literal). literal_of d.0 (value_at other d.1) ∷ ls)
    (literals_same os ds run other (tail_same names) (tail_same values)))

pub inputs_same : (n : ℕ) (vs : List ℕ) (run other : ℕ → Bool) → ((k : ℕ) → n ≤ k → k < n + length vs → run k ≡ other k)
    → input_literals n vs run ≡ input_literals n vs other
inputs_same n [] run other same = refl
inputs_same n (v ∷ vs) run other same =
    ap (λ (b : Bool). literal_of v b ∷ input_literals (suc n) vs run) (same n (omega arith) (omega arith))
    ∙ ap (λ (ls : List Literal). literal_of v (other n) ∷ ls)
    (inputs_same (suc n) vs run other (λ k some few. same k (omega (arith, some)) (omega (arith, few))))

pub computes_same : (mine : Quantifier) (ps : List (Quantifier × ℕ)) (ds : List Decision) (c d : Circuit) → Computes mine ps ds c
    → IsSameCircuit c d
    → Computes mine ps ds d
computes_same mine ps ds c d is same = record {
  inputs = same.inputs ∙ is.inputs;
  outputs = same.names ∙ is.outputs;
  ordered = same.ordered;
  decides = λ o h.
      let there = at_place c.outputs d.outputs o same.names h in
      let told = is.decides there.one there.in_it in
      (told.0, λ other others. by o there (told.0) told.1 other others);
}
  where
    by : (o : ℕ × Wire) (there : AtPlace c.outputs d.outputs o) (otherwise : Bool)
        → ((run : ℕ → Bool) → IsRun c run → value_at run there.one.1 ≡ decided otherwise ds there.one.0 (set_in_run c run))
        → (other : ℕ → Bool) → IsRun d other → value_at other o.1 ≡ decided otherwise ds o.0 (set_in_run d other)
    by o there otherwise told other others =
        let run = exec (first_gate c) c.gates other in
        let agree : (k : ℕ) → k < first_gate c → run k ≡ other k = λ k less. exec_below (first_gate c) c.gates other k less in
        let has : IsRun c run = record {
          constant = agree 0 (omega arith) ∙ others.constant;
          keeps = exec_keeps (first_gate c) c.gates other is.ordered.gates;
        } in
        let values = same.values run other has others (λ k some few. agree k (omega (arith, few))) in
        let set : set_in_run c run ≡ set_in_run d other =
        ap (λ (ls : List Literal). ls ++ input_literals 1 c.inputs run) (literals_same c.outputs d.outputs run other same.names values)
        ∙ ap (λ (ls : List Literal). map (λ o. literal_of o.0 (value_at other o.1)) d.outputs ++ ls)
        (inputs_same 1 c.inputs run other (λ k some few. agree k (omega (arith, few)))
        ∙ ap (λ (vs : List ℕ). input_literals 1 vs other) (sym same.inputs)) in
        there.value run other values
        ∙ (told run has
        ∙ (ap (λ (s : List Literal). decided otherwise ds there.one.0 s) set
        ∙ ap (λ (v : ℕ). decided otherwise ds v (set_in_run d other)) (sym there.name)))
