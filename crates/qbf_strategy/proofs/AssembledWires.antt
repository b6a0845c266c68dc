-- The wires of a prefix, and what is set in a run of the whole circuit.
use Rattle.std.proofs.Common.{arith, ◌≡◌, ◌<◌, ◌+◌, ℕ, zero, suc, Bool, true, false, not, cond, List, [], ◌∷◌, ◌++◌, Some}
use Rattle.std.proofs.Common.{slice_get, refl, sym, ap, subst, ◌∙◌, length, map, inl, inr, nat_eq, eq-eqb, ne_eqb, true≢false}
use Rattle.std.proofs.lemmas.Bool.{cases_Bool}
use Rattle.std.specs.Bool.{beq}
use Rattle.std.specs.List.{AllByRecursion, IsDistinct}
use Rattle.std.proofs.lemmas.Map.Keys.{IsDistinct-head, IsDistinct-tail}
use Rattle.qbf_core.proofs.Bound.{all_in}
use Rattle.qbf_core.specs.Members.{◌∈◌}
use Rattle.qbf_core.specs.Blocks.{is_quantifier, variables}
use Rattle.qbf_core.specs.declared.quantifier.Quantifier.{Quantifier}
use Rattle.qbf_core.specs.declared.quantifier.Quantifier.TheVariants.{All, Exists}
use Rattle.qbf_core.specs.Literal.{Literal, literal_eq}
use Rattle.qbf_completeness.specs.Strategies.{literal_of}
use Rattle.aiger.specs.Wires.{Wire, plain, value_at}
use Rattle.qbf_strategy.specs.Assembling.{Tells}
use Rattle.qbf_strategy.specs.Chosen.{AreInputs, next_input, number_after, outputs_of}
use Rattle.qbf_completeness.specs.Setting.{is_set}
use Rattle.qbf_strategy.specs.Winning.{input_literals, opponent, variables_of}
use Rattle.qbf_strategy.proofs.ChainedEntries.{at_in, not_self}
use Rattle.aiger.proofs.TrimmedGates.{turned_value}

-- ---- one variable more

pub outputs_mine : (mine : Quantifier) (ps : List (Quantifier × ℕ)) (ws : List Wire) (q : Quantifier) (v : ℕ) (w : Wire)
    → slice_get ps (length ws) ≡ Some (q, v) → is_quantifier q mine ≡ true
    → outputs_of mine ps (ws ++ w ∷ []) ≡ outputs_of mine ps ws ++ (v, w) ∷ []
outputs_mine mine [] ws q v w at is = absurd (cc at)
outputs_mine mine ((p, u) ∷ ps) [] q v w at is =
    let e : (p, u) ≡ (q, v) = cc at in
    subst (λ (x : Quantifier
    × ℕ). outputs_of mine (x ∷ ps) (w ∷ []) ≡ (v, w) ∷ []) (sym e) (rw is (ap (λ (l : List (ℕ × Wire)). (v, w) ∷ l) (nothing ps)))
  where
    nothing : (ps : List (Quantifier × ℕ)) → outputs_of mine ps [] ≡ []
    nothing [] = refl
    nothing (p ∷ ps) = refl
outputs_mine mine ((p, u) ∷ ps) (x ∷ ws) q v w at is = by (outputs_mine mine ps ws q v w at is) (is_quantifier p mine)
  where
    by : outputs_of mine ps (ws ++ w ∷ []) ≡ outputs_of mine ps ws ++ (v, w) ∷ [] → (b : Bool)
        → cond b ((u, x) ∷ outputs_of mine ps (ws ++ w ∷ [])) (outputs_of mine ps (ws ++ w ∷ []))
        ≡ cond b ((u, x) ∷ outputs_of mine ps ws) (outputs_of mine ps ws) ++ (v, w) ∷ []
    by later true = ap (λ (l : List (ℕ × Wire)). (u, x) ∷ l) later
    by later false = later

pub outputs_theirs : (mine : Quantifier) (ps : List (Quantifier × ℕ)) (ws : List Wire) (q : Quantifier) (v : ℕ) (w : Wire)
    → slice_get ps (length ws) ≡ Some (q, v) → is_quantifier q mine ≡ false → outputs_of mine ps (ws ++ w ∷ []) ≡ outputs_of mine ps ws
outputs_theirs mine [] ws q v w at is = absurd (cc at)
outputs_theirs mine ((p, u) ∷ ps) [] q v w at is =
    let e : (p, u) ≡ (q, v) = cc at in
    subst (λ (x : Quantifier × ℕ). outputs_of mine (x ∷ ps) (w ∷ []) ≡ []) (sym e) (rw is (nothing ps))
  where
    nothing : (ps : List (Quantifier × ℕ)) → outputs_of mine ps [] ≡ []
    nothing [] = refl
    nothing (p ∷ ps) = refl
outputs_theirs mine ((p, u) ∷ ps) (x ∷ ws) q v w at is = by (outputs_theirs mine ps ws q v w at is) (is_quantifier p mine)
  where
    by : outputs_of mine ps (ws ++ w ∷ []) ≡ outputs_of mine ps ws → (b : Bool)
        → cond b ((u, x) ∷ outputs_of mine ps (ws ++ w ∷ [])) (outputs_of mine ps (ws ++ w ∷ []))
        ≡ cond b ((u, x) ∷ outputs_of mine ps ws) (outputs_of mine ps ws)
    by later true = ap (λ (l : List (ℕ × Wire)). (u, x) ∷ l) later
    by later false = later

pub next_after : (mine : Quantifier) (n : ℕ) (ps : List (Quantifier × ℕ)) (ws : List Wire) (q : Quantifier) (v : ℕ) (w : Wire)
    → slice_get ps (length ws) ≡ Some (q, v) → next_input mine n ps (ws ++ w ∷ []) ≡ number_after mine q (next_input mine n ps ws)
next_after mine n [] ws q v w at = absurd (cc at)
next_after mine n ((p, u) ∷ ps) [] q v w at =
    let e : (p, u) ≡ (q, v) = cc at in
    subst (λ (x : Quantifier × ℕ). next_input mine n (x ∷ ps) (w ∷ []) ≡ number_after mine q n) (sym e) (nothing (number_after mine q n) ps)
  where
    nothing : (n : ℕ) (ps : List (Quantifier × ℕ)) → next_input mine n ps [] ≡ n
    nothing n [] = refl
    nothing n (p ∷ ps) = refl
next_after mine n ((p, u) ∷ ps) (x ∷ ws) q v w at = next_after mine (number_after mine p n) ps ws q v w at

pub inputs_after : (mine : Quantifier) (n : ℕ) (ps : List (Quantifier × ℕ)) (ws : List Wire) (q : Quantifier) (v : ℕ) (w : Wire)
    → slice_get ps (length ws) ≡ Some (q, v) → (is_quantifier q mine ≡ false → w ≡ plain (next_input mine n ps ws)) → AreInputs mine n ps ws
    → AreInputs mine n ps (ws ++ w ∷ [])
inputs_after mine n [] ws q v w at is are = tt
inputs_after mine n ((p, u) ∷ ps) [] q v w at is are =
    let e : (p, u) ≡ (q, v) = cc at in let q_of : Quantifier × ℕ → Quantifier = λ x. x.0 in
    ((λ theirs. is (subst (λ (x : Quantifier). is_quantifier x mine ≡ false) (ap q_of e) theirs)), nothing (number_after mine p n) ps)
  where
    nothing : (n : ℕ) (ps : List (Quantifier × ℕ)) → AreInputs mine n ps []
    nothing n [] = tt
    nothing n (p ∷ ps) = tt
inputs_after mine n ((p, u) ∷ ps) (x ∷ ws) q v w at is are = (are.0, inputs_after mine (number_after mine p n) ps ws q v w at is are.1)

some_same : {X : Type 0} {x y : X} → Some x ≡ Some y → x ≡ y
some_same e = cc e

-- ---- what is set in a run

opponent_is : (q mine : Quantifier) → is_quantifier q (opponent mine) ≡ not (is_quantifier q mine)
opponent_is All All = refl
opponent_is All Exists = refl
opponent_is Exists All = refl
opponent_is Exists Exists = refl

-- a variable of the other player has an input left
pub input_left : (mine : Quantifier) (n : ℕ) (ps : List (Quantifier × ℕ)) (ws : List Wire) (q : Quantifier) (v : ℕ)
    → slice_get ps (length ws) ≡ Some (q, v) → is_quantifier q mine ≡ false → next_input mine n ps ws < n + length (variables_of (opponent mine) ps)
input_left mine n [] ws q v at theirs = absurd (cc at)
input_left mine n ((p, u) ∷ ps) [] q v at theirs =
    let e : (p, u) ≡ (q, v) = cc at in
    let q_of : Quantifier × ℕ → Quantifier = λ x. x.0 in
    let is : is_quantifier p (opponent mine) ≡ true = opponent_is p mine ∙ ap not (ap (λ (x : Quantifier). is_quantifier x mine) (ap q_of e) ∙ theirs) in
    rw is (omega arith)
input_left mine n ((p, u) ∷ ps) (w ∷ ws) q v at theirs = elim (cases_Bool (is_quantifier p mine)) [
  | inl my ↦
      let isnt : is_quantifier p (opponent mine) ≡ false = opponent_is p mine ∙ ap not my in
      rw (my, isnt) (input_left mine n ps ws q v at theirs)
  | inr other ↦
      let is : is_quantifier p (opponent mine) ≡ true = opponent_is p mine ∙ ap not other in
      rw (other, is) (let rest = input_left mine (suc n) ps ws q v at theirs in omega (arith, rest))
]

module _ (run : ℕ → Bool) (mine : Quantifier) (l : Literal) where
  abbrev outs : List (Quantifier × ℕ) → List Wire → List Literal
  outs ps ws = map (λ o. literal_of o.0 (value_at run o.1)) (outputs_of mine ps ws)

  abbrev ins : ℕ → List (Quantifier × ℕ) → List Literal
  ins n ps = input_literals n (variables_of (opponent mine) ps) run

  other_set : (v : ℕ) (b : Bool) (s : List Literal) → (l.var ≡ v → ⊥) → is_set l (literal_of v b ∷ s) ≡ is_set l s
  other_set v b s ne = rw (ne_eqb l.var v ne) refl

  no_outs : (ps : List (Quantifier × ℕ)) (ws : List Wire) → (l.var ∈ variables ps → ⊥) → is_set l (outs ps ws) ≡ false
  no_outs [] ws none = refl
  no_outs (p ∷ ps) [] none = refl
  no_outs ((q, v) ∷ ps) (w ∷ ws) none = by (no_outs ps ws (λ h. none (inr h))) (is_quantifier q mine)
    where
      by : is_set l (outs ps ws) ≡ false → (b : Bool)
          → is_set l (map (λ o. literal_of o.0 (value_at run o.1)) (cond b ((v, w) ∷ outputs_of mine ps ws) (outputs_of mine ps ws)))
          ≡ false
      by later true = other_set v (value_at run w) (outs ps ws) (λ e. none (inl e)) ∙ later
      by later false = later

  no_ins : (n : ℕ) (ps : List (Quantifier × ℕ)) → (l.var ∈ variables ps → ⊥) → is_set l (ins n ps) ≡ false
  no_ins n [] none = refl
  no_ins n ((q, v) ∷ ps) none =
      by (no_ins (suc n) ps (λ h. none (inr h))) (no_ins n ps (λ h. none (inr h))) (is_quantifier q (opponent mine))
    where
      by : is_set l (ins (suc n) ps) ≡ false → is_set l (ins n ps) ≡ false → (b : Bool)
          → is_set l (input_literals n (cond b (v ∷ variables_of (opponent mine) ps) (variables_of (opponent mine) ps)) run) ≡ false
      by numbered same true = other_set v (run n) (ins (suc n) ps) (λ e. none (inl e)) ∙ numbered
      by numbered same false = same

  here_set : (b : Bool) (s : List Literal) → is_set l s ≡ false → is_set l (literal_of l.var b ∷ s) ≡ cond l.negative (not b) b
  here_set b s none = rw (eq-eqb l.var l.var refl) (by l.negative b)
    where
      by : (n b : Bool) → cond (beq n (not b)) true (is_set l s) ≡ cond n (not b) b
      by true true = none
      by true false = refl
      by false true = refl
      by false false = none

  either : (a b c : Bool) → a ≡ c → b ≡ false → cond a true b ≡ c
  either true b c e n = e
  either false b c e n = n ∙ e

  second : (a b c : Bool) → a ≡ false → b ≡ c → cond a true b ≡ c
  second true b c e n = absurd (true≢false e)
  second false b c e n = n

  told : (n : ℕ) (ps : List (Quantifier × ℕ)) (ws : List Wire) (i : ℕ) (q : Quantifier) (w : Wire) → IsDistinct nat_eq (variables ps)
      → AreInputs mine n ps ws → slice_get ps i ≡ Some (q, l.var) → slice_get ws i ≡ Some w
      → cond (is_set l (outs ps ws)) true (is_set l (ins n ps)) ≡ cond l.negative (not (value_at run w)) (value_at run w)
  told n [] ws i q w d are at there = absurd (cc at)
  told n (p ∷ ps) [] i q w d are at there = absurd (cc there)
  told n ((p, u) ∷ ps) (x ∷ ws) zero q w d are at there =
      let e : (p, u) ≡ (q, l.var) = cc at in
      let var : Quantifier × ℕ → ℕ = λ x. x.1 in
      let u_is : u ≡ l.var = ap var e in
      let w_is : x ≡ w = some_same there in
      let none : l.var ∈ variables ps → ⊥ = λ h.
      not_self l.var (all_in (λ w. nat_eq l.var w ≡ false) (variables ps)
      (subst (λ (m : ℕ). AllByRecursion (λ w. nat_eq m w
      ≡ false) (variables ps)) u_is (IsDistinct-head nat_eq u (variables ps) d)) l.var h) in
      elim (cases_Bool (is_quantifier p mine)) [
        | inl my ↦
            let theirs : is_quantifier p (opponent mine) ≡ false = opponent_is p mine ∙ ap not my in
            rw (my, theirs) (either _ _ _
            (subst (λ (m : ℕ). is_set l (literal_of m (value_at run x) ∷ outs ps ws)
            ≡ cond l.negative (not (value_at run w)) (value_at run w)) (sym u_is)
            (here_set (value_at run x) (outs ps ws) (no_outs ps ws none)
            ∙ ap (λ (y : Wire). cond l.negative (not (value_at run y)) (value_at run y)) w_is))
            (no_ins n ps none))
        | inr isnt ↦
            let theirs : is_quantifier p (opponent mine) ≡ true = opponent_is p mine ∙ ap not isnt in
            let plain_is : w ≡ plain n = sym w_is ∙ are.0 isnt in
            rw (isnt, theirs) (second _ _ _ (no_outs ps ws none)
            (subst (λ (m : ℕ). is_set l (literal_of m (run n) ∷ ins (suc n) ps)
            ≡ cond l.negative (not (value_at run w)) (value_at run w)) (sym u_is)
            (here_set (run n) (ins (suc n) ps) (no_ins (suc n) ps none)
            ∙ ap (λ (y : Wire). cond l.negative (not (value_at run y)) (value_at run y)) (sym plain_is))))
      ]
  told n ((p, u) ∷ ps) (x ∷ ws) (suc i) q w d are at there =
      let ne : l.var ≡ u → ⊥ = λ e.
      not_self l.var (all_in (λ w. nat_eq l.var w ≡ false) (variables ps)
      (subst (λ (m : ℕ). AllByRecursion (λ w. nat_eq m w ≡ false) (variables ps)) (sym e) (IsDistinct-head nat_eq u (variables ps) d)) l.var
      (at_in ps i l.var (q, at))) in
      let rest = IsDistinct-tail nat_eq u (variables ps) d in
      elim (cases_Bool (is_quantifier p mine)) [
        | inl my ↦
            let theirs : is_quantifier p (opponent mine) ≡ false = opponent_is p mine ∙ ap not my in
            let later : AreInputs mine n ps ws = subst (λ (m : ℕ). AreInputs mine m ps ws) (rw my refl) are.1 in
            rw (my, theirs) (ap (λ (b : Bool). cond b true (is_set l (ins n ps))) (other_set u (value_at run x) (outs ps ws) ne)
            ∙ told n ps ws i q w rest later at there)
        | inr isnt ↦
            let theirs : is_quantifier p (opponent mine) ≡ true = opponent_is p mine ∙ ap not isnt in
            let later : AreInputs mine (suc n) ps ws = subst (λ (m : ℕ). AreInputs mine m ps ws) (rw isnt refl) are.1 in
            rw (isnt, theirs) (ap (λ (b : Bool). cond (is_set l (outs ps ws)) true b) (other_set u (run n) (ins (suc n) ps) ne)
            ∙ told (suc n) ps ws i q w rest later at there)
      ]

set_append : (l : Literal) (a b : List Literal) → is_set l (a ++ b) ≡ cond (is_set l a) true (is_set l b)
set_append l [] b = refl
set_append l (m ∷ a) b = by (set_append l a b) (literal_eq l m)
  where
    by : is_set l (a ++ b) ≡ cond (is_set l a) true (is_set l b) → (c : Bool)
        → cond c true (is_set l (a ++ b)) ≡ cond (cond c true (is_set l a)) true (is_set l b)
    by later true = refl
    by later false = later

-- the wires of a whole prefix tell what is set in a run
pub run_tells : (run : ℕ → Bool) (mine : Quantifier) (ps : List (Quantifier × ℕ)) (ws : List Wire) → IsDistinct nat_eq (variables ps)
    → AreInputs mine 1 ps ws
    → Tells ps ws run (map (λ o. literal_of o.0 (value_at run o.1)) (outputs_of mine ps ws)
    ++ input_literals 1 (variables_of (opponent mine) ps) run)
run_tells run mine ps ws d are i v w (q, at) there negative =
    turned_value run w negative
    ∙ sym (set_append (record { var = v; negative = negative })
    (map (λ o. literal_of o.0 (value_at run o.1)) (outputs_of mine ps ws)) (input_literals 1 (variables_of (opponent mine) ps) run)
    ∙ told run mine (record { var = v; negative = negative }) 1 ps ws i q w d are at there)
