-- Some gates of a circuit, anew, and runs of both.
use Rattle.std.proofs.Common.{arith, ◌≡◌, ◌<◌, ◌≤◌, ◌+◌, ℕ, zero, suc, Bool, true, false, not, cond, List, [], ◌∷◌, ◌++◌, Some}
use Rattle.std.proofs.Common.{slice_get, refl}
use Rattle.std.specs.Prelude.{IfSome}
use Rattle.std.proofs.Common.{Option, add-one, take, sym, ap, subst, ◌∙◌, length, map, inl, inr, ◌⊎◌}
use Rattle.std.proofs.lemmas.List.{length-append}
use Rattle.std.specs.List.{AllByRecursion}
use Rattle.std.proofs.lemmas.Bool.Decides.{eqb_tells}
use Rattle.aiger.specs.Circuits.{AreValues, Circuit, Gate, IsOrdered, IsRun, KeepsGates, StandBelow, both, gate_value}
use Rattle.aiger.specs.Trimming.{AddsGate, Agree, IsSame, IsSameCircuit, IsTrimming, OutputsSame}
use Rattle.aiger.specs.Trimming.{PutsGate}
use Rattle.aiger.specs.Wires.{Wire, constant, plain, turned, value_at}
use Rattle.aiger.proofs.Folds.{opposite_value}
use Rattle.aiger.proofs.KeptGates.{keeps_at, keeps_left, pushed_gates, pushed_value}

pub turned_value : (run : ℕ → Bool) (w : Wire) (negated : Bool)
    → value_at run (turned w negated) ≡ cond negated (not (value_at run w)) (value_at run w)
turned_value run w true = opposite_value run w
turned_value run w false = refl

pub turned_var : (w : Wire) (negated : Bool) → (turned w negated).var ≡ w.var
turned_var w true = refl
turned_var w false = refl

module _ (first : ℕ) (old gates : List Gate) (ws : List Wire) (is : IsTrimming first old gates ws) where
  pub same_wire : (v x w : Wire) → slice_get ws v.var ≡ Some x → (x ≡ constant true → ⊥) → w ≡ turned x v.negated
      → IsSame first old gates v w
  same_wire v x w there some w_is = subst (λ (y : Wire). IsSame first old gates v y) (sym w_is) (elim (is.same v.var x there) [
    | inl none ↦ absurd (some none)
    | inr same ↦ record {
      below = subst (λ (n : ℕ). n < first + length gates) (sym (turned_var x v.negated)) same.below;
      value = λ run other has others agree.
          turned_value other x v.negated ∙ ap (λ (b : Bool). cond v.negated (not b) b) (same.value run other has others agree);
    }
  ])

values_left : (first : ℕ) (gates more : List Gate) (run : ℕ → Bool) → AreValues first (gates ++ more) run → AreValues first gates run
values_left first gates more run has = record { constant = has.constant; keeps = keeps_left first gates more run has.keeps }

same_grown : (first : ℕ) (old gates more : List Gate) (v w : Wire) → IsSame first old gates v w → IsSame first old (gates ++ more) v w
same_grown first old gates more v w same = record {
  below = let l = length-append gates more in let b = same.below in omega arith;
  value = λ run other has others agree. same.value run other has (values_left first gates more other others) agree;
}

pub gate_put : (first : ℕ) (g n : Gate) (gates new : List Gate) (ws : List Wire) (w : Wire) → new ≡ gates ++ n ∷ []
    → first + length gates < 2147483648
    → w ≡ plain (first + length gates)
    → ((old : List Gate) → IsTrimming first old gates ws → IsSame first old gates g.left n.left)
    → ((old : List Gate) → IsTrimming first old gates ws → IsSame first old gates g.right n.right)
    → PutsGate first g gates new ws w
gate_put first g n gates new ws w new_is few w_is left right = record {
  still = λ old is. record {
    sound = pushed_gates first gates new n is.sound new_is few (left old is).below (right old is).below;
    same = λ k x there. elim (is.same k x there) [
      | inl none ↦ inl none
      | inr same ↦ inr (subst (λ (gs : List Gate). IsSame first old gs (record { var = k; negated = false }) x) (sym new_is)
          (same_grown first old gates (n ∷ []) (record { var = k; negated = false }) x same))
    ];
  };
  is = λ old is. inr (record {
    below = (let var : Wire
        → ℕ = λ x. x.var in let e = ap var w_is in let l = ap length new_is ∙ length-append gates (n ∷ []) in omega arith);
    value = λ run other has others agree.
        let before = values_left first gates (n ∷ []) other (subst (λ (gs : List Gate). AreValues first gs other) new_is others) in
        pushed_value (record { first = first; gates = new }) gates n w (length gates) new_is refl w_is other others
        ∙ (ap (λ (b : Bool). both b (value_at other n.right)) ((left old is).value run other has before agree)
        ∙ ap (λ (b : Bool). both (value_at run g.left) b) ((right old is).value run other has before agree));
  });
}

pub gate_out : (first : ℕ) (g : Gate) (gates : List Gate) (ws : List Wire) (w : Wire) → w ≡ constant true
    → PutsGate first g gates gates ws w
gate_out first g gates ws w out = record { still = λ old is. is; is = λ old is. inl out }

at_push : (ws : List Wire) (w : Wire) (n : ℕ) (x : Wire) → slice_get (ws ++ w ∷ []) n ≡ Some x
    → ((n ≡ length ws) × (x ≡ w)) ⊎ (slice_get ws n ≡ Some x)
at_push [] w zero x at = inl (refl, sym (cc at))
at_push [] w (suc n) x at = absurd (cc at)
at_push (y ∷ ws) w zero x at = inr at
at_push (y ∷ ws) w (suc n) x at = elim (at_push ws w n x at) [
  | inl (e, is) ↦ inl (ap suc e, is)
  | inr h ↦ inr h
]

pub gate_added : (first : ℕ) (g : Gate) (gates new : List Gate) (ws more : List Wire) (w : Wire) → PutsGate first g gates new ws w
    → more ≡ ws ++ w ∷ [] → AddsGate first g gates new ws more
gate_added first g gates new ws more w puts more_is = record {
  count = ap length more_is ∙ length-append ws (w ∷ []);
  still = λ old i at place is. subst (λ (x : List Wire). IsTrimming first old new x) (sym more_is) (record {
    sound = (puts.still old is).sound;
    same = λ n x there. elim (at_push ws w n x there) [
      | inl (n_is, x_is) ↦ subst (λ (y : Wire). (y
          ≡ constant true) ⊎ IsSame first old new (record { var = n; negated = false }) y) (sym x_is)
          (elim (puts.is old is) [
            | inl out ↦ inl out
            | inr same ↦ inr (record {
              below = same.below;
              value = λ run other has others agree.
                  let e : first + i ≡ n = place ∙ sym n_is in
                  same.value run other has others agree
                  ∙ sym (subst (λ (m : ℕ). run m ≡ gate_value run g) e (keeps_at first old run i g at has.keeps));
            })
          ])
      | inr before ↦ (puts.still old is).same n x before
    ];
  });
}

-- ---- outputs

pub outputs_pushed : (first : ℕ) (old gates : List Gate) (os ds : List (ℕ × Wire)) (o d : ℕ × Wire) → OutputsSame first old gates os ds
    → d.0 ≡ o.0 → IsSame first old gates o.1 d.1 → OutputsSame first old gates (os ++ o ∷ []) (ds ++ d ∷ [])
outputs_pushed first old gates [] [] o d same e is = (e, is, tt)
outputs_pushed first old gates [] (x ∷ ds) o d same e is = absurd same
outputs_pushed first old gates (x ∷ os) [] o d same e is = absurd same
outputs_pushed first old gates (x ∷ os) (y ∷ ds) o d same e is = (same.0, same.1, outputs_pushed first old gates os ds o d same.2 e is)

names_same : (first : ℕ) (old gates : List Gate) (os ds : List (ℕ × Wire)) → OutputsSame first old gates os ds
    → map (λ o. o.0) ds ≡ map (λ o. o.0) os
names_same first old gates [] [] same = refl
names_same first old gates [] (d ∷ ds) same = absurd same
names_same first old gates (o ∷ os) [] same = absurd same
names_same first old gates (o ∷ os) (d ∷ ds) same =
    ap (λ (n : ℕ). n ∷ map (λ o. o.0) ds) same.0 ∙ ap (λ (l : List ℕ). o.0 ∷ l) (names_same first old gates os ds same.2)

values_same : (first : ℕ) (old gates : List Gate) (os ds : List (ℕ × Wire)) (run other : ℕ → Bool) → OutputsSame first old gates os ds
    → AreValues first old run → AreValues first gates other → Agree first run other
    → map (λ o. value_at other o.1) ds ≡ map (λ o. value_at run o.1) os
values_same first old gates [] [] run other same has others agree = refl
values_same first old gates [] (d ∷ ds) run other same has others agree = absurd same
values_same first old gates (o ∷ os) [] run other same has others agree = absurd same
values_same first old gates (o ∷ os) (d ∷ ds) run other same has others agree =
    ap (λ (b : Bool). b ∷ map (λ o. value_at other o.1) ds) (same.1.value run other has others agree)
    ∙ ap (λ (l : List Bool). value_at run o.1 ∷ l) (values_same first old gates os ds run other same.2 has others agree)

below_same : (first : ℕ) (old gates : List Gate) (os ds : List (ℕ × Wire)) → OutputsSame first old gates os ds
    → AllByRecursion (λ o. o.1.var < first + length gates) ds
below_same first old gates [] [] same = tt
below_same first old gates [] (d ∷ ds) same = absurd same
below_same first old gates (o ∷ os) [] same = absurd same
below_same first old gates (o ∷ os) (d ∷ ds) same = (same.1.below, below_same first old gates os ds same.2)

pub trimmed_is : (c d : Circuit) (ws : List Wire) → d.inputs ≡ c.inputs → IsTrimming (suc (length c.inputs)) c.gates d.gates ws
    → OutputsSame (suc (length c.inputs)) c.gates d.gates c.outputs d.outputs → IsSameCircuit c d
trimmed_is c d ws inputs is same =
    let first : suc (length d.inputs) ≡ suc (length c.inputs) = ap (λ (l : List ℕ). suc (length l)) inputs in
    record {
      inputs = inputs;
      names = names_same (suc (length c.inputs)) c.gates d.gates c.outputs d.outputs same;
      ordered = record {
        gates = subst (λ (n : ℕ). StandBelow n d.gates) (sym first) is.sound.below;
        outputs = subst (λ (n : ℕ). AllByRecursion (λ o. o.1.var < n + length d.gates) d.outputs) (sym first)
            (below_same (suc (length c.inputs)) c.gates d.gates c.outputs d.outputs same);
        few = subst (λ (n : ℕ). n + length d.gates ≤ 2147483648) (sym first) is.sound.few;
      };
      values = λ run other has others agree.
          values_same (suc (length c.inputs)) c.gates d.gates c.outputs d.outputs run other same has
          (subst (λ (n : ℕ). AreValues n d.gates other) first others)
          (λ k less. at k less run other has others agree);
    }
  where
    at : (k : ℕ) → k < suc (length c.inputs) → (run other : ℕ → Bool) → IsRun c run → IsRun d other
        → ((k : ℕ) → 1 ≤ k → k ≤ length c.inputs → run k ≡ other k) → run k ≡ other k
    at zero less run other has others agree = has.constant ∙ sym others.constant
    at (suc k) less run other has others agree = agree (suc k) (omega arith) (omega arith)

pub same_itself : (c : Circuit) → IsOrdered c → IsSameCircuit c c
same_itself c ordered = record {
  inputs = refl;
  names = refl;
  ordered = ordered;
  values = λ run other has others agree. values_itself c.outputs ordered.outputs run other
      (λ k less. everywhere (suc (length c.inputs)) c.gates run other ordered.gates has.keeps others.keeps
      (λ k less. at k less run other has others agree) k less);
}
  where
    at : (k : ℕ) → k < suc (length c.inputs) → (run other : ℕ → Bool) → IsRun c run → IsRun c other
        → ((k : ℕ) → 1 ≤ k → k ≤ length c.inputs → run k ≡ other k) → run k ≡ other k
    at zero less run other has others agree = has.constant ∙ sym others.constant
    at (suc k) less run other has others agree = agree (suc k) (omega arith) (omega arith)

    wire_same : (n : ℕ) (run other : ℕ → Bool) → Agree n run other → (w : Wire) → w.var < n → value_at run w ≡ value_at other w
    wire_same n run other agree w less = ap (λ (b : Bool). cond w.negated (not b) b) (agree w.var less)

    everywhere : (n : ℕ) (gates : List Gate) (run other : ℕ → Bool) → StandBelow n gates → KeepsGates n gates run → KeepsGates n gates other
        → Agree n run other → Agree (n + length gates) run other
    everywhere n [] run other stands has others agree k less = agree k (omega (arith, less))
    everywhere n (g ∷ gates) run other stands has others agree k less =
        everywhere (suc n) gates run other stands.2 has.1 others.1
        (λ j under. more n g run other stands.0 stands.1 has.0 others.0 agree j under) k (omega (arith, less))
      where
        more : (n : ℕ) (g : Gate) (run other : ℕ → Bool) → g.left.var < n → g.right.var < n → run n ≡ gate_value run g
            → other n ≡ gate_value other g
            → Agree n run other → Agree (suc n) run other
        more n g run other left right has others agree j under = elim (eqb_tells j n) [
          | inl (t, e) ↦ subst (λ (m : ℕ). run m ≡ other m) (sym e) (has
              ∙ (ap (λ (b : Bool). both b (value_at run g.right)) (wire_same n run other agree g.left left)
              ∙ (ap (λ (b : Bool). both (value_at other g.left) b) (wire_same n run other agree g.right right) ∙ sym others)))
          | inr (f, ne) ↦ agree j (omega (arith, ne))
        ]

    values_itself : (os : List (ℕ × Wire)) → AllByRecursion (λ o. o.1.var < suc (length c.inputs) + length c.gates) os → (run other : ℕ
        → Bool)
        → Agree (suc (length c.inputs) + length c.gates) run other → map (λ o. value_at other o.1) os ≡ map (λ o. value_at run o.1) os
    values_itself [] all run other agree = refl
    values_itself (o ∷ os) all run other agree =
        ap (λ (b : Bool). b ∷ map (λ o. value_at other o.1) os)
        (sym (wire_same (suc (length c.inputs) + length c.gates) run other agree o.1 all.0))
        ∙ ap (λ (l : List Bool). value_at run o.1 ∷ l) (values_itself os all.1 run other agree)

pub take_next : {X : Type 0} (xs : List X) (i : ℕ) (x : X) → slice_get xs i ≡ Some x → take (i + 1) xs ≡ take i xs ++ x ∷ []
take_next xs i x at = rw (add-one) (from xs i x at)
  where
    from : {X : Type 0} (xs : List X) (i : ℕ) (x : X) → slice_get xs i ≡ Some x → take (suc i) xs ≡ take i xs ++ x ∷ []
    from [] i x at = absurd (cc at)
    from (y ∷ xs) zero x at = let e : y ≡ x = cc at in rw e refl
    from (y ∷ xs) (suc i) x at = ap (λ (l : List _). y ∷ l) (from xs i x at)

pub outputs_next : (first : ℕ) (old gates : List Gate) (outs : List (ℕ × Wire)) (i : ℕ) (o : ℕ × Wire) (ds more : List (ℕ × Wire)) (d : ℕ
    × Wire)
    → slice_get outs i ≡ Some o → more ≡ ds ++ d ∷ [] → d.0 ≡ o.0 → IsSame first old gates o.1 d.1
    → OutputsSame first old gates (take i outs) ds
    → OutputsSame first old gates (take (i + 1) outs) more
outputs_next first old gates outs i o ds more d at is name same before =
    subst (λ (os : List (ℕ × Wire)). OutputsSame first old gates os more) (sym (take_next outs i o at))
    (subst (λ (l : List (ℕ × Wire)). OutputsSame first old gates (take i outs ++ o ∷ []) l) (sym is)
    (outputs_pushed first old gates (take i outs) ds o d before name same))

pub some_has : {X : Type 0} (P : X → Type 0) (o : Option X) (x : X) → o ≡ Some x → IfSome o P → P x
some_has P o x e p = subst (λ (y : Option _). IfSome y P) e p

pub trimmed_by : (c d : Circuit) (first : ℕ) (ws : List Wire) (outs : List (ℕ × Wire)) → first ≡ suc (length c.inputs) → d.inputs ≡ c.inputs
    → outs ≡ c.outputs → IsTrimming (suc (length c.inputs)) c.gates d.gates ws
    → ((old : List Gate) → IsTrimming first old d.gates ws → OutputsSame first old d.gates outs d.outputs) → IsSameCircuit c d
trimmed_by c d first ws outs first_is inputs outs_are is same =
    trimmed_is c d ws inputs is
    (subst (λ (os : List (ℕ × Wire)). OutputsSame (suc (length c.inputs)) c.gates d.gates os d.outputs) outs_are
    (subst (λ (n : ℕ). OutputsSame n c.gates d.gates outs d.outputs) first_is
    (same c.gates (subst (λ (n : ℕ). IsTrimming n c.gates d.gates ws) (sym first_is) is))))
