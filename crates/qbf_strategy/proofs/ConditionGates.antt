-- Gates of conditions, and of what is decided under them.
use Rattle.std.proofs.Common.{arith, ◌≡◌, ◌<◌, ◌≤◌, ◌+◌, ℕ, zero, suc, Bool, true, false, not, cond, List, [], ◌∷◌, Some, slice_get}
use Rattle.std.proofs.Common.{refl, sym, ap, subst, ◌∙◌, length, map, drop, inl, inr}
use Rattle.std.proofs.lemmas.Option.{get_or_from_slice_get, slice_get_cases, slice_get_within}
use Rattle.std.proofs.Common.{get_or, IsErrAnd, IsErrOf, Result, Err}
use Rattle.std.proofs.lemmas.Result.{err_from_is_err_and}
use Rattle.std.proofs.Math.ListN.{drop_of_length-le}
use Rattle.qbf_core.specs.Literal.{Literal}
use Rattle.aiger.specs.Building.{Built, Grows, HasValues, IsBoth, next_of}
use Rattle.aiger.specs.Circuits.{both}
use Rattle.aiger.specs.Wires.{Wire, constant, opposite, value_at}
use Rattle.aiger.proofs.TrimmedGates.{turned_value, turned_var}
use Rattle.aiger.proofs.Folds.{constant_value, opposite_value}
use Rattle.aiger.proofs.KeptGates.{grows_same, grows_then, next_grows, values_before}
use Rattle.qbf_completeness.specs.Setting.{are_set}
use Rattle.qbf_strategy.specs.Decisions.{wanted}
use Rattle.qbf_strategy.specs.Assembling.{AllBelow, ArePlaced, Tells, all_true}
use Rattle.aiger.specs.Wires.{turned}
use Rattle.qbf_strategy.specs.Conditions.{AreConditions, GivesCondition, IsCondition, IsConjunction, IsConjunctionBefore, IsDecided}
use Rattle.qbf_strategy.specs.Conditions.{IsEither, KeptFrom, Scene, fires}
use Rattle.qbf_strategy.specs.declared.conditions.Work.{Work}
use Rattle.qbf_strategy.specs.declared.ordered.OrderedWires.{OrderedWires}
use Rattle.qbf_strategy.specs.Ordering.{AreBuilt, AreOrdered}
use Rattle.qbf_strategy.proofs.ToldLiterals.{both_assoc, both_true, drop_at}

-- ---- conjunctions

pub below_grown : (a b : Built) (ws : List Wire) → Grows a b → AllBelow (next_of a) ws → AllBelow (next_of b) ws
below_grown a b ws g all k d less = let one = all k d less in let more = next_grows a b g in omega arith

pub below_at : (n : ℕ) (ws : List Wire) (i : ℕ) (w : Wire) → AllBelow n ws → slice_get ws i ≡ Some w → w.var < n
below_at n ws i w all at =
    let less = slice_get_within ws i w at in
    let e : get_or ws i w ≡ w = get_or_from_slice_get ws i w w at in
    subst (λ (x : Wire). x.var < n) e (all i w less)

pub conjunction_first : (b : Built) (ws : List Wire) (w : Wire) → w ≡ constant true → 0 < next_of b → IsConjunctionBefore b b ws 0 w
conjunction_first b ws w is some = subst (λ (x : Wire). IsConjunctionBefore b b ws 0 x) (sym is) (record {
  grows = grows_same b;
  below = some;
  value = λ run has. ap (λ (v : Bool). both v (all_true run ws)) (constant_value run true has.constant);
  count = omega arith;
  few = omega arith;
})

pub conjunction_next : (old now new : Built) (ws : List Wire) (i : ℕ) (w more x : Wire) → slice_get ws i ≡ Some x
    → Grows now new → next_of new ≤ next_of now + 1 → more.var < next_of new → IsBoth new w x more
    → IsConjunctionBefore old now ws i w → IsConjunctionBefore old new ws (i + 1) more
conjunction_next old now new ws i w more x at grows one below is before = record {
  grows = grows_then old now new before.grows grows;
  below = below;
  value = λ run has.
      ap (λ (v : Bool). both v (all_true run (drop (i + 1) ws))) (is run has)
      ∙ (both_assoc (value_at run w) (value_at run x) (all_true run (drop (i + 1) ws))
      ∙ (ap (λ (rest : List Wire). both (value_at run w) (all_true run rest))
      (sym (drop_at ws i x at))
      ∙ before.value run (values_before now new run grows has)));
  count = let count = before.count in omega (arith, one, count);
  few = let count = before.count in let less = slice_get_within ws i x at in omega (arith, one, count, less);
}

pub conjunction_all : (old new : Built) (ws : List Wire) (i : ℕ) (w : Wire) → length ws ≤ i → IsConjunctionBefore old new ws i w
    → IsConjunction old new ws w
conjunction_all old new ws i w past before = record {
  grows = before.grows;
  below = before.below;
  value = λ run has.
      sym (both_true (value_at run w))
      ∙ (ap (λ (rest : List Wire). both (value_at run w) (all_true run rest)) (sym (drop_of_length-le ws past))
      ∙ before.value run has);
  few = before.few;
}

-- ---- one of two values

choose : (value c a : Bool) → cond value (not (both (not c) (cond value (not a) a))) (both (not c) (cond value (not a) a)) ≡ cond c value a
choose true true true = refl
choose true true false = refl
choose true false true = refl
choose true false false = refl
choose false true true = refl
choose false true false = refl
choose false false true = refl
choose false false false = refl

either_by : (old new : Built) (condition : Wire) (value : Bool) (after w : Wire) → Grows old new → next_of new ≤ next_of old + 1
    → w.var < next_of new → IsBoth new (opposite condition) (turned after value) w → IsEither old new condition value after (turned w value)
either_by old new condition value after w grows one below is = record {
  grows = grows;
  below = let e = turned_var w value in subst (λ (n : ℕ). n < next_of new) (sym e) below;
  chooses = λ run has.
      turned_value run w value
      ∙ (ap (λ (x : Bool). cond value (not x) x)
      (is run has
      ∙ (ap (λ (x : Bool). both x (value_at run (turned after value))) (opposite_value run condition)
      ∙ ap (λ (x : Bool). both (not (value_at run condition)) x) (turned_value run after value)))
      ∙ choose value (value_at run condition) (value_at run after));
  few = one;
}

pub either_is : (old new : Built) (condition : Wire) (value : Bool) (after a b w r : Wire) → a ≡ opposite condition → b ≡ turned after value
    → r ≡ turned w value → Grows old new → next_of new ≤ next_of old + 1 → w.var < next_of new → IsBoth new a b w
    → IsEither old new condition value after r
either_is old new condition value after a b w r ea eb er grows one below is =
    subst (λ (x : Wire). IsEither old new condition value after x) (sym er)
    (either_by old new condition value after w grows one below
    (subst (λ (x : Wire). IsBoth new x (turned after value) w) ea (subst (λ (x : Wire). IsBoth new a x w) eb is)))

-- ---- conditions that are kept

pub condition_grown : (at : Scene) (a b : Built) (lits : List Literal) (w : Wire) → Grows a b → IsCondition at a lits w
    → IsCondition at b lits w
condition_grown at a b lits w g is = record {
  below = let one = is.below in let more = next_grows a b g in omega arith;
  value = λ run s has tells. is.value run s (values_before a b run g has) tells;
}

pub conditions_grown : (at : Scene) (a b : Built) (conditions : List Wire) → Grows a b → AreConditions at a conditions
    → AreConditions at b conditions
conditions_grown at a b conditions g are k w lits here kept = elim (are k w lits here kept) [
  | inl none ↦ inl none
  | inr is ↦ inr (condition_grown at a b lits w g is)
]

pub built_after : (at : Scene) (old now : Work) → Grows old.gates now.gates → AreConditions at now.gates now.conditions.items
    → now.ordered ≡ old.ordered → AreBuilt at old → AreBuilt at now
built_after at old now grows known same built = record {
  below = below_grown old.gates now.gates at.ws grows built.below;
  known = known;
  ordered = subst (λ (o : OrderedWires). AreOrdered at o) (sym same) built.ordered;
}

fires_at : (at : Scene) (k : ℕ) (lits : List Literal) (b : Built) (w : Wire) → slice_get at.kept k ≡ Some lits → IsCondition at b lits w
    → (run : ℕ → Bool) (s : List Literal) → HasValues b run → Tells at.ps at.ws run s → value_at run w ≡ fires at s k
fires_at at k lits b w here is run s has tells =
    is.value run s has tells
    ∙ ap (λ (ls : List Literal). are_set (map (wanted at.mine) ls) s) (sym (get_or_from_slice_get at.kept k lits [] here))

pub condition_built : (at : Scene) (old new : Built) (k : ℕ) (lits : List Literal) (some before after : List Wire)
    (w : Wire)
    → slice_get at.kept k ≡ Some lits → ArePlaced at.ps at.ws at.mine lits some → IsConjunction old new some w
    → AreConditions at old before → KeptFrom before after k w → GivesCondition at k old new after w
condition_built at old new k lits some before after w here are conjoined known keeps =
    let is : IsCondition at new lits w = record {
      below = conjoined.below;
      value = λ run s has tells. conjoined.value run has ∙ are.tell run s tells;
    } in
    record {
      grows = conjoined.grows;
      below = conjoined.below;
      known = λ i x others there kept. elim (keeps i x there) [
        | inl (ik, xw) ↦ inr (subst (λ (y : Wire). IsCondition at new others y) (sym xw)
            (subst (λ (ls : List Literal). IsCondition at new ls w)
            (let at_k : slice_get at.kept k ≡ Some others = subst (λ (n : ℕ). slice_get at.kept n ≡ Some others) ik kept in cc) is))
        | inr there_before ↦ conditions_grown at old new before conjoined.grows known i x others there_before kept
      ];
      value = λ run s has tells. fires_at at k lits new w here is run s has tells;
      few =
          let seen : get_or at.kept k [] ≡ lits = get_or_from_slice_get at.kept k lits [] here in
          let count : length (get_or at.kept k []) ≡ length lits = ap length seen in
          let one = are.few in let two = conjoined.few in omega (arith, count, one, two);
    }

pub condition_there : (at : Scene) (b : Built) (conditions : List Wire) (k : ℕ) (w : Wire) → k < length at.kept
    → AreConditions at b conditions
    → (w ≡ constant false → ⊥) → slice_get conditions k ≡ Some w → GivesCondition at k b b conditions w
condition_there at b conditions k w inside are some there = elim (slice_get_cases at.kept k).1 [
  | inl (lits, _, here, _) ↦
      let is : IsCondition at b lits w = elim (are k w lits there here) [
        | inl none ↦ absurd (some none)
        | inr is ↦ is
      ] in
      record { grows = grows_same b; known = are; below = is.below; value = fires_at at k lits b w here is; few = omega arith }
  | inr (past, _) ↦ absurd (omega arith)
]

-- ---- what is decided under a condition

-- what the exit of a `?` hands on
pub same_fault : {T U E : Type 0} (r : Result T E) (x e : E) → IsErrAnd r (λ y. y ≡ x) → IsErrOf r e → IsErrOf {T = U} (Err x) e
same_fault r x e handed is = let w = err_from_is_err_and r handed in let same : w.0 ≡ e = cc in cc

pub decided_either : (at : Scene) (k : ℕ) (value : Bool) (after : Wire) (a b d : Built) (conditions : List Wire) (c w : Wire)
    → GivesCondition at k a b conditions c → IsEither b d c value after w → IsDecided at k value after a d conditions w
decided_either at k value after a b d conditions c w gives is = record {
  grows = grows_then a b d gives.grows is.grows;
  known = conditions_grown at b d conditions is.grows gives.known;
  below = is.below;
  chooses = λ run s has tells.
      is.chooses run has ∙ ap (λ (x : Bool). cond x value (value_at run after))
      (gives.value run s (values_before b d run is.grows has) tells);
  few = let one = gives.few in let two = is.few in omega (arith, one, two);
}
