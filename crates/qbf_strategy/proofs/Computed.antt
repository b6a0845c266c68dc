-- A circuit that computes decisions is a winning strategy, if whoever keeps to the decisions wins.
use Rattle.qbf_core.proofs.Cited.{arith, ◌≡◌, ◌<◌, ◌≤◌, ◌+◌, ℕ, zero, suc, Bool, true, false, cond, eqb, List, [], ◌∷◌, ◌++◌, ◌⊎◌, inl, inr}
use Rattle.qbf_core.proofs.Cited.{refl, sym, ap, ◌∙◌, subst, map, Some, slice_get, Literal, positive, negative, negated}
use Rattle.qbf_core.proofs.Cited.{◌∈◌, IsClean, is_quantifier, variables}
use Rattle.qbf_core.specs.Rules.{IsTotal}
use Rattle.qbf_core.specs.Blocks.{Binds, IsBefore, IsBound, pairs}
use Rattle.qbf_core.specs.Qbf.{Qbf, IsClosed}
use Rattle.qbf_core.specs.declared.quantifier.Quantifier.{Quantifier}
use Rattle.qbf_core.specs.declared.quantifier.Quantifier.TheVariants.{All, Exists}
use Rattle.std.proofs.Common.{not, eq-eqb, ne_eqb}
use Rattle.std.proofs.lemmas.Bool.{cases_Bool}
use Rattle.qbf_core.proofs.Bound.{apart_of, binds_in, bound_in, block, block_found, Distinct, in_bound, pair_var}
use Rattle.qbf_core.proofs.Members.{append_left, append_right, got_in, in_append, in_got, lit_is, negated_differs}
use Rattle.aiger.specs.declared.circuit.Gate.{Gate}
use Rattle.aiger.specs.Circuits.{Circuit, IsRun, KeepsGates, StandBelow, both, first_gate, gate_value}
use Rattle.aiger.specs.Wires.{Wire, value_at}
use Rattle.qbf_completeness.specs.Strategies.{literal_of}
use Rattle.qbf_strategy.specs.Computing.{Computes}
use Rattle.qbf_completeness.specs.Setting.{is_set}
use Rattle.qbf_strategy.specs.Decisions.{Decision, decided}
use Rattle.qbf_strategy.specs.Winning.{IsWon, IsWinningCircuit, input_literals, opponent, set_in_run, variables_of}
use Rattle.qbf_completeness.proofs.Setting.{in_set, set_in}
use Rattle.qbf_strategy.proofs.Played.{decided_alike}

-- ---- the values of a run

module _ (t : List Literal) (clean : IsClean t) where
  set_value : (u : ℕ) (b : Bool) (l : Literal) → literal_of u b ∈ t → l.var ≡ u → is_set l t ≡ cond l.negative (not b) b
  set_value u b l h e = elim (lit_is l u e) [
    | inl is ↦ subst (λ (z : Literal). is_set z t ≡ cond z.negative (not b) b) (sym is) (pos b h)
    | inr is ↦ subst (λ (z : Literal). is_set z t ≡ cond z.negative (not b) b) (sym is) (neg b h)
  ]
    where
      pos : (b : Bool) → literal_of u b ∈ t → is_set (positive u) t ≡ b
      pos true h = in_set (positive u) t h
      pos false h = elim (cases_Bool (is_set (positive u) t)) [
        | inl is ↦ absurd (clean (positive u) (set_in (positive u) t is) h)
        | inr isnt ↦ isnt
      ]

      neg : (b : Bool) → literal_of u b ∈ t → is_set (negative u) t ≡ not b
      neg true h = elim (cases_Bool (is_set (negative u) t)) [
        | inl is ↦ absurd (clean (negative u) (set_in (negative u) t is) h)
        | inr isnt ↦ isnt
      ]
      neg false h = in_set (negative u) t h

-- ---- the variables of the two players

pub in_part : (q : Quantifier) (ps : List (Quantifier × ℕ)) (v : ℕ) → v ∈ variables_of q ps
    → (p : Quantifier) × ((p, v) ∈ ps) × (is_quantifier p q ≡ true)
in_part q [] v h = absurd h
in_part q ((p, u) ∷ ps) v h = elim (cases_Bool (is_quantifier p q)) [
  | inl is ↦ (let k : v ∈ (u ∷ variables_of q ps) = rw is at h in elim k [
    | inl e ↦ (let pair_with : ℕ → Quantifier × ℕ = λ n. (p, n) in (p, inl (ap pair_with e), is))
    | inr m ↦ (let w = in_part q ps v m in (w.0, inr w.1, w.2))
  ])
  | inr isnt ↦ (let k : v ∈ variables_of q ps = rw isnt at h in let w = in_part q ps v k in (w.0, inr w.1, w.2))
]

pub part_of : (q p : Quantifier) (ps : List (Quantifier × ℕ)) (v : ℕ) → (p, v) ∈ ps → is_quantifier p q ≡ true → v ∈ variables_of q ps
part_of q p [] v h is = absurd h
part_of q p ((r, u) ∷ ps) v (inl e) is =
    let var_of : Quantifier × ℕ → ℕ = λ a. a.1 in
    let quantifier_of : Quantifier × ℕ → Quantifier = λ a. a.0 in
    rw (subst (λ x. is_quantifier x q ≡ true) (ap quantifier_of e) is) (inl (ap var_of e))
part_of q p ((r, u) ∷ ps) v (inr h) is = by (is_quantifier r q) (part_of q p ps v h is)
  where
    by : (b : Bool) → v ∈ variables_of q ps → v ∈ cond b (u ∷ variables_of q ps) (variables_of q ps)
    by true m = inr m
    by false m = m

distinct_insert : (a b : List ℕ) (v : ℕ) → Distinct (a ++ b) → (v ∈ (a ++ b) → ⊥) → Distinct (a ++ (v ∷ b))
distinct_insert [] b v d out = (out, d)
distinct_insert (x ∷ a) b v d out = (
  (λ h. elim (in_append a (v ∷ b) x h) [
    | inl k ↦ d.0 (append_left a b x k)
    | inr (inl e) ↦ out (inl (sym e))
    | inr (inr k) ↦ d.0 (append_right a b x k)
  ]),
  distinct_insert a b v d.1 (λ h. out (inr h)),
)

-- a quantifier is the player's or the other's
pub whose : (mine p : Quantifier) → ((is_quantifier p mine ≡ true) × (is_quantifier p (opponent mine) ≡ false))
    ⊎ ((is_quantifier p mine ≡ false) × (is_quantifier p (opponent mine) ≡ true))
whose All All = inl (refl, refl)
whose All Exists = inr (refl, refl)
whose Exists All = inr (refl, refl)
whose Exists Exists = inl (refl, refl)

module _ (mine : Quantifier) where
  parts_within : (ps : List (Quantifier × ℕ)) (v : ℕ) → v ∈ (variables_of mine ps ++ variables_of (opponent mine) ps) → v ∈ variables ps
  parts_within ps v h = elim (in_append (variables_of mine ps) (variables_of (opponent mine) ps) v h) [
    | inl k ↦ (let w = in_part mine ps v k in pair_var ps w.0 v w.1)
    | inr k ↦ (let w = in_part (opponent mine) ps v k in pair_var ps w.0 v w.1)
  ]

  pub parts_distinct : (ps : List (Quantifier × ℕ)) → Distinct (variables ps)
      → Distinct (variables_of mine ps ++ variables_of (opponent mine) ps)
  parts_distinct [] d = tt
  parts_distinct ((p, v) ∷ ps) d =
      let rest = parts_distinct ps d.1 in
      let out : v ∈ (variables_of mine ps ++ variables_of (opponent mine) ps) → ⊥ = λ h. d.0 (parts_within ps v h) in
      elim (whose mine p) [
        | inl e ↦ rw e.0 (rw e.1 (out, rest))
        | inr e ↦ rw e.0 (rw e.1 (distinct_insert (variables_of mine ps) (variables_of (opponent mine) ps) v rest out))
      ]

-- ---- literals of distinct variables

abbrev pub vars_of : List Literal → List ℕ
vars_of ls = map (λ l. l.var) ls

var_in : (ls : List Literal) (l : Literal) → l ∈ ls → l.var ∈ vars_of ls
var_in [] l h = absurd h
var_in (k ∷ ls) l (inl e) = inl (ap (λ (m : Literal). m.var) e)
var_in (k ∷ ls) l (inr h) = inr (var_in ls l h)

only_of_var : (ls : List Literal) → Distinct (vars_of ls) → (l m : Literal) → l ∈ ls → m ∈ ls → l.var ≡ m.var → l ≡ m
only_of_var [] d l m h k e = absurd h
only_of_var (x ∷ ls) d l m (inl a) (inl b) e = a ∙ sym b
only_of_var (x ∷ ls) d l m (inl a) (inr b) e =
    absurd (d.0 (subst (λ n. n ∈ vars_of ls) (sym e ∙ ap (λ (y : Literal). y.var) a) (var_in ls m b)))
only_of_var (x ∷ ls) d l m (inr a) (inl b) e =
    absurd (d.0 (subst (λ n. n ∈ vars_of ls) (e ∙ ap (λ (y : Literal). y.var) b) (var_in ls l a)))
only_of_var (x ∷ ls) d l m (inr a) (inr b) e = only_of_var ls d.1 l m a b e

pub distinct_clean : (ls : List Literal) → Distinct (vars_of ls) → IsClean ls
distinct_clean ls d l h k = negated_differs l (only_of_var ls d (negated l) l k h refl)

pub vars_append : (a b : List Literal) → vars_of (a ++ b) ≡ vars_of a ++ vars_of b
vars_append [] b = refl
vars_append (x ∷ a) b = ap (λ vs. x.var ∷ vs) (vars_append a b)

pub vars_inputs : (n : ℕ) (vs : List ℕ) (run : ℕ → Bool) → vars_of (input_literals n vs run) ≡ vs
vars_inputs n [] run = refl
vars_inputs n (v ∷ vs) run = ap (λ ws. v ∷ ws) (vars_inputs (suc n) vs run)

abbrev pub output_literals : List (ℕ × Wire) → (ℕ → Bool) → List Literal
output_literals outs run = map (λ o. literal_of o.0 (value_at run o.1)) outs

pub vars_outputs : (outs : List (ℕ × Wire)) (run : ℕ → Bool) → vars_of (output_literals outs run) ≡ map (λ o. o.0) outs
vars_outputs [] run = refl
vars_outputs (o ∷ outs) run = ap (λ ws. o.0 ∷ ws) (vars_outputs outs run)

pub output_set : (outs : List (ℕ × Wire)) (run : ℕ → Bool) (o : ℕ × Wire) → o ∈ outs
    → literal_of o.0 (value_at run o.1) ∈ output_literals outs run
output_set [] run o h = absurd h
output_set (p ∷ outs) run o (inl e) = inl (let g : ℕ × Wire → Literal = λ q. literal_of q.0 (value_at run q.1) in ap g e)
output_set (p ∷ outs) run o (inr h) = inr (output_set outs run o h)

pub output_named : (outs : List (ℕ × Wire)) (v : ℕ) → v ∈ map (λ o. o.0) outs → (o : ℕ × Wire) × (o ∈ outs) × (o.0 ≡ v)
output_named [] v h = absurd h
output_named (p ∷ outs) v (inl e) = (p, inl refl, sym e)
output_named (p ∷ outs) v (inr h) = let w = output_named outs v h in (w.0, inr w.1, w.2)

-- ---- runs

-- the value of the gate of number n, and those before it
abbrev pub after_gate : ℕ → Gate → (ℕ → Bool) → ℕ → Bool
after_gate n g e k = cond (eqb k n) (gate_value e g) (e k)

-- the values of the gates from the number n on, one after the other
abbrev pub exec : ℕ → List Gate → (ℕ → Bool) → ℕ → Bool
exec n [] e = e
exec n (g ∷ gates) e = exec (suc n) gates (after_gate n g e)

other_stays : (n : ℕ) (g : Gate) (e : ℕ → Bool) (k : ℕ) → (k ≡ n → ⊥) → after_gate n g e k ≡ e k
other_stays n g e k ne = rw (ne_eqb k n ne) refl

pub exec_below : (n : ℕ) (gates : List Gate) (e : ℕ → Bool) (k : ℕ) → k < n → exec n gates e k ≡ e k
exec_below n [] e k less = refl
exec_below n (g ∷ gates) e k less =
    exec_below (suc n) gates (after_gate n g e) k (omega (arith, less)) ∙ other_stays n g e k (λ is. omega (arith, is, less))

same_value : (a b : ℕ → Bool) (w : Wire) → a w.var ≡ b w.var → value_at a w ≡ value_at b w
same_value a b w e = ap (λ x. cond w.negated (not x) x) e

pub exec_keeps : (n : ℕ) (gates : List Gate) (e : ℕ → Bool) → StandBelow n gates → KeepsGates n gates (exec n gates e)
exec_keeps n [] e below = tt
exec_keeps n (g ∷ gates) e below =
    let out = exec (suc n) gates (after_gate n g e) in
    let operand : (w : Wire) → w.var < n → value_at e w ≡ value_at out w = λ w less.
    same_value e out w (sym (exec_below n (g ∷ gates) e w.var less)) in
    let here : out n ≡ after_gate n g e n = exec_below (suc n) gates (after_gate n g e) n (omega arith) in (
      here ∙ (rw (eq-eqb n n refl) (ap (λ b. both b (value_at e g.right)) (operand g.left below.0)
          ∙ ap (λ b. both (value_at out g.left) b) (operand g.right below.1))),
      exec_keeps (suc n) gates (after_gate n g e) below.2,
    )

abbrev pub started : (ℕ → Bool) → ℕ → Bool
started values k = cond (eqb k 0) false (values k)

pub started_there : (values : ℕ → Bool) (k : ℕ) → 1 ≤ k → started values k ≡ values k
started_there values k some = rw (ne_eqb k 0 (λ e. omega (arith, e, some))) refl

-- ---- the circuit

-- a variable has one value
same_bool : (t : List Literal) → IsClean t → (u : ℕ) (b c : Bool) → literal_of u b ∈ t → literal_of u c ∈ t → b ≡ c
same_bool t clean u true true h k = refl
same_bool t clean u false false h k = refl
same_bool t clean u true false h k = absurd (clean (positive u) h k)
same_bool t clean u false true h k = absurd (clean (negative u) h k)

input_from : (n : ℕ) (vs : List ℕ) (run : ℕ → Bool) (i u : ℕ) → slice_get vs i ≡ Some u
    → literal_of u (run (n + i)) ∈ input_literals n vs run
input_from n [] run i u here = absurd (cc here)
input_from n (v ∷ vs) run zero u here =
    let e : v ≡ u = cc here in
    let k : n + 0 ≡ n = omega arith in
    subst (λ m. literal_of u (run m) ∈ (literal_of v (run n) ∷ input_literals (suc n) vs run)) (sym k)
    (inl (ap (λ x. literal_of x (run n)) (sym e)))
input_from n (v ∷ vs) run (suc i) u here =
    let k : n + suc i ≡ suc n + i = omega arith in
    subst (λ m. literal_of u (run m) ∈ (literal_of v (run n) ∷ input_literals (suc n) vs run)) (sym k)
    (inr (input_from (suc n) vs run i u here))

pub input_at : (vs : List ℕ) (run : ℕ → Bool) (i u : ℕ) → slice_get vs i ≡ Some u → literal_of u (run (suc i)) ∈ input_literals 1 vs run
input_at vs run i u here =
    let k : 1 + i ≡ suc i = omega arith in
    subst (λ m. literal_of u (run m) ∈ input_literals 1 vs run) k (input_from 1 vs run i u here)

pub name_in : (outs : List (ℕ × Wire)) (o : ℕ × Wire) → o ∈ outs → o.0 ∈ map (λ p. p.0) outs
name_in [] o h = absurd h
name_in (p ∷ outs) o (inl e) = inl (let g : ℕ × Wire → ℕ = λ q. q.0 in ap g e)
name_in (p ∷ outs) o (inr h) = inr (name_in outs o h)

pub literal_sets : (t : List Literal) (v : ℕ) (b : Bool) → literal_of v b ∈ t → (positive v ∈ t) ⊎ (negative v ∈ t)
literal_sets t v true h = inl h
literal_sets t v false h = inr h

own_quantifier : (q : Quantifier) → is_quantifier q q ≡ true
own_quantifier All = refl
own_quantifier Exists = refl

module _ (mine : Quantifier) (f : Qbf) (closed : IsClosed f) (ds : List Decision) (c : Circuit)
    (computes : Computes mine (pairs f.blocks) ds c)
    (sees : (v : ℕ) (d : Decision) → d ∈ ds → (l : Literal) → l ∈ d.sets → l.var ≡ v → (w : Literal) → w ∈ d.when
    → IsBound f.blocks w.var × (block f.blocks w.var < block f.blocks v)) where
  distinct : Distinct (variables (pairs f.blocks))
  distinct = apart_of (variables (pairs f.blocks)) closed.distinct

  -- the output of a variable of the player
  output_of : (p : Quantifier) (v : ℕ) → (p, v) ∈ pairs f.blocks → is_quantifier p mine ≡ true
      → (o : ℕ × Wire) × (o ∈ c.outputs) × (o.0 ≡ v)
  output_of p v h is = output_named c.outputs v (subst (λ vs. v ∈ vs) (sym computes.outputs) (part_of mine p (pairs f.blocks) v h is))

  -- the place of an input
  input_of : (p : Quantifier) (v : ℕ) → (p, v) ∈ pairs f.blocks → is_quantifier p (opponent mine) ≡ true
      → (i : ℕ) × (slice_get c.inputs i ≡ Some v)
  input_of p v h is = in_got c.inputs v (subst (λ vs. v ∈ vs) (sym computes.inputs) (part_of (opponent mine) p (pairs f.blocks) v h is))

  module _ (run : ℕ → Bool) (is_run : IsRun c run) where
    abbrev t : List Literal
    t = set_in_run c run

    vars_are : vars_of t ≡ variables_of mine (pairs f.blocks) ++ variables_of (opponent mine) (pairs f.blocks)
    vars_are =
        vars_append (output_literals c.outputs run) (input_literals 1 c.inputs run)
        ∙ (ap (λ (vs : List ℕ). vs ++ vars_of (input_literals 1 c.inputs run)) (vars_outputs c.outputs run ∙ computes.outputs)
        ∙ ap (λ (vs : List ℕ). variables_of mine (pairs f.blocks) ++ vs) (vars_inputs 1 c.inputs run ∙ computes.inputs))

    t_clean : IsClean t
    t_clean = distinct_clean t (subst (λ vs. Distinct vs) (sym vars_are) (parts_distinct mine (pairs f.blocks) distinct))

    output_there : (o : ℕ × Wire) → o ∈ c.outputs → literal_of o.0 (value_at run o.1) ∈ t
    output_there o h = append_left (output_literals c.outputs run) (input_literals 1 c.inputs run) (literal_of o.0 (value_at run o.1))
        (output_set c.outputs run o h)

    input_there : (i u : ℕ) → slice_get c.inputs i ≡ Some u → literal_of u (run (suc i)) ∈ t
    input_there i u here = append_right (output_literals c.outputs run) (input_literals 1 c.inputs run) (literal_of u (run (suc i)))
        (input_at c.inputs run i u here)

    t_total : IsTotal f.blocks t
    t_total v bound =
        let w = bound_in (pairs f.blocks) v bound in
        elim (whose mine w.0) [
          | inl my ↦
              let o = output_of w.0 v w.1 my.0 in
              literal_sets t v (value_at run o.0.1) (subst (λ n. literal_of n (value_at run o.0.1) ∈ t) o.2 (output_there o.0 o.1))
          | inr theirs ↦
              let i = input_of w.0 v w.1 theirs.1 in
              literal_sets t v (run (suc i.0)) (input_there i.0 v i.1)
        ]

    t_played : (v : ℕ) → Binds f.blocks mine v → (otherwise : Bool) × (literal_of v (decided otherwise ds v t) ∈ t)
    t_played v binds =
        let o = output_of mine v (binds_in (pairs f.blocks) mine v binds) (own_quantifier mine) in
        let told = computes.decides o.0 o.1 in
        let there : literal_of o.0.0 (decided told.0 ds o.0.0 t) ∈ t =
        subst (λ b. literal_of o.0.0 b ∈ t) (told.1 run is_run) (output_there o.0 o.1) in
        (told.0, subst (λ n. literal_of n (decided told.0 ds n t) ∈ t) o.2 there)

  -- ---- an output depends on inputs in earlier blocks alone

  module _ (run again : ℕ → Bool) (is_run : IsRun c run) (is_again : IsRun c again) (top : ℕ)
      (same_inputs : (i u : ℕ) → slice_get c.inputs i ≡ Some u → block f.blocks u < top → run (suc i) ≡ again (suc i)) where
    -- the two ends agree on the variables in the first k blocks
    abbrev Agree : ℕ → Type 0
    Agree k = (u : ℕ) → IsBound f.blocks u → block f.blocks u < k → (b : Bool)
        → literal_of u b ∈ t run is_run → literal_of u b ∈ t again is_again

    same_sets : (k : ℕ) → Agree k → (w : Literal) → IsBound f.blocks w.var → block f.blocks w.var < k
        → is_set w (t run is_run) ≡ is_set w (t again is_again)
    same_sets k agree w bound less = elim (t_total run is_run w.var bound) [
      | inl p ↦ set_value (t run is_run) (t_clean run is_run) w.var true w p refl
          ∙ sym (set_value (t again is_again) (t_clean again is_again) w.var true w (agree w.var bound less true p) refl)
      | inr n ↦ set_value (t run is_run) (t_clean run is_run) w.var false w n refl
          ∙ sym (set_value (t again is_again) (t_clean again is_again) w.var false w (agree w.var bound less false n) refl)
    ]

    -- an output of the block k is the same
    same_output : (k : ℕ) → Agree k → (o : ℕ × Wire) → o ∈ c.outputs → block f.blocks o.0 ≤ k → value_at run o.1 ≡ value_at again o.1
    same_output k agree o h low =
        let told = computes.decides o h in
        told.1 run is_run
        ∙ (decided_alike told.0 ds o.0 (t run is_run) (t again is_again)
        (λ d g l m e w n.
        let before = sees o.0 d g l m e w n in
        same_sets k agree w before.0 (omega (arith, before.1, low)))
        ∙ sym (told.1 again is_again))

    agree_to : (k : ℕ) → k ≤ top → Agree k
    agree_to zero up u bound less b h = absurd (omega (arith, less))
    agree_to (suc k) up u bound less b h =
        let before : Agree k = agree_to k (omega (arith, up)) in
        let w = bound_in (pairs f.blocks) u bound in
        elim (whose mine w.0) [
          | inl my ↦
              let o = output_of w.0 u w.1 my.0 in
              let there : (r : ℕ → Bool) (is : IsRun c r) → literal_of u (value_at r o.0.1) ∈ t r is =
              λ r is. subst (λ n. literal_of n (value_at r o.0.1) ∈ t r is) o.2 (output_there r is o.0 o.1) in
              let is : b ≡ value_at run o.0.1 = same_bool (t run is_run) (t_clean run is_run) u b (value_at run o.0.1) h
              (there run is_run) in
              let low : block f.blocks o.0.0 ≤ k = subst (λ n. block f.blocks n ≤ k) (sym o.2) (omega (arith, less)) in
              subst (λ x. literal_of u x ∈ t again is_again) (sym (is ∙ same_output k before o.0 o.1 low)) (there again is_again)
          | inr theirs ↦
              let i = input_of w.0 u w.1 theirs.1 in
              let is : b ≡ run (suc i.0) = same_bool (t run is_run) (t_clean run is_run) u b (run (suc i.0)) h
              (input_there run is_run i.0 u i.1) in
              subst (λ x. literal_of u x ∈ t again is_again) (sym (is ∙ same_inputs i.0 u i.1 (omega (arith, less, up))))
              (input_there again is_again i.0 u i.1)
        ]

  output_causal : (run again : ℕ → Bool) → IsRun c run → IsRun c again → (o : ℕ × Wire) → o ∈ c.outputs
      → ((i u : ℕ) → slice_get c.inputs i ≡ Some u → IsBefore f.blocks u o.0 → run (suc i) ≡ again (suc i))
      → value_at run o.1 ≡ value_at again o.1
  output_causal run again is_run is_again o h same_inputs =
      let v : ℕ = o.0 in
      let named : v ∈ variables_of mine (pairs f.blocks) = subst (λ vs. v ∈ vs) computes.outputs (name_in c.outputs o h) in
      let part = in_part mine (pairs f.blocks) v named in
      let at_v = block_found f.blocks v (in_bound (pairs f.blocks) part.0 v part.1) in
      let same : (i u : ℕ) → slice_get c.inputs i ≡ Some u → block f.blocks u < block f.blocks v → run (suc i) ≡ again (suc i) =
      λ i u here less. same_inputs i u here (λ a b is_a is_b.
      let of_u = in_part (opponent mine) (pairs f.blocks) u (subst (λ vs. u ∈ vs) computes.inputs (got_in c.inputs i u here)) in
      let at_u = block_found f.blocks u (in_bound (pairs f.blocks) of_u.0 u of_u.1) in
      let a_is : a ≡ block f.blocks u = cc (is_a, at_u) in
      let b_is : b ≡ block f.blocks v = cc (is_b, at_v) in
      omega (arith, a_is, b_is, less)) in
      same_output run again is_run is_again (block f.blocks v) same (block f.blocks v)
      (agree_to run again is_run is_again (block f.blocks v) same (block f.blocks v) (omega arith)) o h (omega arith)

  pub circuit_wins : ((s : List Literal) → IsClean s → IsTotal f.blocks s
      → ((v : ℕ) → Binds f.blocks mine v → (otherwise : Bool) × (literal_of v (decided otherwise ds v s) ∈ s)) → IsWon mine f s)
      → IsWinningCircuit mine f c
  circuit_wins obeyed = record {
    inputs = computes.inputs;
    outputs = computes.outputs;
    ordered = computes.ordered;
    runs = λ values. (
      exec (first_gate c) c.gates (started values),
      record {
        constant = exec_below (first_gate c) c.gates (started values) 0 (omega arith);
        keeps = exec_keeps (first_gate c) c.gates (started values) computes.ordered.gates;
      },
      λ n some few. exec_below (first_gate c) c.gates (started values) n (omega (arith, few)) ∙ started_there values n some,
    );
    wins = λ run is. obeyed (t run is) (t_clean run is) (t_total run is) (t_played run is);
    causal = output_causal;
  }
