-- The value that is chosen for a variable is the one that is decided.
use Rattle.std.proofs.Common.{arith, ◌≡◌, ◌<◌, ◌≤◌, ◌+◌, ◌-◌, ℕ, suc, Bool, true, false, not, cond, List, [], ◌∷◌, Some}
use Rattle.std.proofs.Common.{slice_get, refl, sym, ap, subst, ◌∙◌, length, map, ◌==◌}
use Rattle.qbf_core.specs.declared.quantifier.Quantifier.{Quantifier}
use Rattle.qbf_core.specs.Literal.{Literal}
use Rattle.aiger.specs.Building.{Built, next_of}
use Rattle.aiger.specs.Wires.{Wire, constant, value_at}
use Rattle.aiger.proofs.Folds.{constant_value}
use Rattle.qbf_strategy.specs.declared.entries.Entry.{Entry}
use Rattle.qbf_strategy.specs.Chains.{Chain, Sayings, evaluated, with_lists, with_literals}
use Rattle.qbf_strategy.specs.Chosen.{HasChain, IsChosen, IsChosenAfter}
use Rattle.qbf_strategy.specs.Conditions.{AreConditions, IsDecided, IsReady, Scene, fires}
use Rattle.qbf_strategy.specs.Costs.{cost, cost_among}
use Rattle.qbf_completeness.specs.Setting.{are_set}
use Rattle.qbf_strategy.specs.Decisions.{decided, decisions_by, value_in, wanted}
use Rattle.qbf_strategy.proofs.ChainedEntries.{chain_none, chain_some, chain_within}
use Rattle.aiger.proofs.KeptGates.{grows_same, grows_then, values_before}

pub chosen_first : (at : Scene) (es : List Entry) (last : ℕ) (otherwise : Bool) (b : Built) (conditions : List Wire) (w : Wire)
    → AreConditions at b conditions → w ≡ constant otherwise → 0 < next_of b → IsChosenAfter at es last last otherwise b b conditions w
chosen_first at es last otherwise b conditions w are is some = record {
  grows = grows_same b;
  known = are;
  below = let var : Wire → ℕ = λ x. x.var in let e : w.var ≡ 0 = ap var is in omega arith;
  rest = λ v said chain. record {
    left = said;
    chain = chain;
    value = λ run s has tells.
        ap (λ (x : Bool). evaluated (fires at s) v x said) (ap (value_at run) is ∙ constant_value run otherwise has.constant);
    ready = λ ready. ready;
    few = omega arith;
  };
}

pub chosen_next : (at : Scene) (es : List Entry) (last number next : ℕ) (otherwise : Bool) (old now new : Built) (before after : List Wire)
    (w more : Wire) (e : Entry) → 0 < number → slice_get es (number - 1) ≡ Some e → next ≡ e.before
    → IsDecided at e.decision e.value w now new after more → IsChosenAfter at es last number otherwise old now before w
    → IsChosenAfter at es last next otherwise old new after more
chosen_next at es last number next otherwise old now new before after w more e some there next_is is chosen = record {
  grows = grows_then old now new chosen.grows is.grows;
  known = is.known;
  below = is.below;
  rest = λ v said chain.
      let left = chosen.rest v said chain in
      let earlier = chain_some es v number e left.left (omega arith) there left.chain in
      record {
        left = earlier.rest;
        chain = subst (λ (n : ℕ). Chain es v n earlier.rest) (sym next_is) earlier.chain;
        value = λ run s has tells.
            ap (λ (x : Bool). evaluated (fires at s) v x earlier.rest) (is.chooses run s has tells)
            ∙ (sym (earlier.value (fires at s) (value_at run w)) ∙ left.value run s (values_before now new run is.grows has) tells);
        ready = λ ready k l h. left.ready ready k l (earlier.within (k, l) h);
        few =
            let one = is.few in let two = left.few in let three = earlier.costs at.kept in omega (arith, one, two, three);
      };
}

pub chosen_all : (at : Scene) (es : List Entry) (last number : ℕ) (otherwise : Bool) (old new : Built) (conditions : List Wire) (w : Wire)
    → number ≤ 0 → IsChosenAfter at es last number otherwise old new conditions w → (plain : Bool)
    → IsChosen at es last plain old new conditions w
chosen_all at es last number otherwise old new conditions w none chosen plain = record {
  grows = chosen.grows;
  known = chosen.known;
  below = chosen.below;
  otherwise = otherwise;
  value = λ v said chain run s has tells.
      let left = chosen.rest v said chain in
      sym (chain_none (fires at s) v (value_at run w) es number left.left (omega arith) left.chain) ∙ left.value run s has tells;
  few = λ is_plain v said chain. let left = chosen.rest v said chain in let few = left.few in omega (arith, few);
}

-- ---- the entry that is next

module _ (at : Scene) (es : List Entry) (last number : ℕ) (otherwise : Bool) (old now : Built) (conditions : List Wire) (w : Wire)
    (chosen : IsChosenAfter at es last number otherwise old now conditions w) where
  pub number_within : HasChain at es last → number ≤ length es
  number_within has =
      let left = chosen.rest has.variable has.said has.chain in chain_within es has.variable number left.left left.chain

  module _ (e : Entry) (some : 0 < number) (there : slice_get es (number - 1) ≡ Some e) where
    pub is_ready : HasChain at es last → IsReady at e.decision
    is_ready has =
        let left = chosen.rest has.variable has.said has.chain in
        let earlier = chain_some es has.variable number e left.left (omega (arith, some)) there left.chain in
        left.ready has.ready e.decision earlier.lit earlier.there earlier.same

    pub goes_back : HasChain at es last → e.before < number
    goes_back has =
        let left = chosen.rest has.variable has.said has.chain in
        (chain_some es has.variable number e left.left (omega (arith, some)) there left.chain).back

    pub too_long : 2147483648 ≤ next_of now + cost at.kept e.decision → (v : ℕ) (said : Sayings) → Chain es v last said
        → 2147483648 ≤ next_of old + cost_among at.kept (v ∷ []) said
    too_long long v said chain =
        let left = chosen.rest v said chain in
        let earlier = chain_some es v number e left.left (omega (arith, some)) there left.chain in
        let one = earlier.costs at.kept in let two = left.few in omega (arith, long, one, two)

-- ---- all entries together say what the decisions do

same_if : (c value : Bool) → cond c value value ≡ value
same_if true value = refl
same_if false value = refl

by_cases : (holds same negative inner value : Bool)
    → cond same (cond holds (not negative) (cond holds inner value)) (cond holds inner value)
    ≡ cond holds (cond same (not negative) inner) value
by_cases true true negative inner value = refl
by_cases true false negative inner value = refl
by_cases false true negative inner value = refl
by_cases false false negative inner value = refl

literals_say : (mine : Quantifier) (holds : ℕ → Bool) (v k : ℕ) (value : Bool) (ls : List Literal) (said : Sayings)
    → evaluated holds v value (with_literals mine k ls said)
    ≡ evaluated holds v (cond (holds k) (value_in (map (wanted mine) ls) v value) value) said
literals_say mine holds v k value [] said = ap (λ (x : Bool). evaluated holds v x said) (sym (same_if (holds k) value))
literals_say mine holds v k value (l ∷ ls) said =
    literals_say mine holds v k value ls ((k, wanted mine l) ∷ said)
    ∙ ap (λ (x : Bool). evaluated holds v x said)
    (by_cases (holds k) ((wanted mine l).var == v) (wanted mine l).negative (value_in (map (wanted mine) ls) v value) value)

pub lists_say : (mine : Quantifier) (holds : ℕ
    → Bool) (s : List Literal) (v k : ℕ) (value : Bool) (kept removed : List (List Literal)) (said : Sayings)
    → length removed ≤ length kept
    → ((i : ℕ) (lits : List Literal) → slice_get kept i ≡ Some lits → holds (k + i) ≡ are_set (map (wanted mine) lits) s)
    → evaluated holds v value (with_lists mine k removed said) ≡ evaluated holds v (decided value (decisions_by mine kept removed) v s) said
lists_say mine holds s v k value [] [] said few tells = refl
lists_say mine holds s v k value (ls ∷ kept) [] said few tells = refl
lists_say mine holds s v k value [] (r ∷ removed) said few tells = absurd (omega arith)
lists_say mine holds s v k value (ls ∷ kept) (r ∷ removed) said few tells =
    let z : k + 0 ≡ k = omega arith in
    let here : holds k ≡ are_set (map (wanted mine) ls) s =
    subst (λ (n : ℕ). holds n ≡ are_set (map (wanted mine) ls) s) z (tells 0 ls refl) in
    lists_say mine holds s v (suc k) value kept removed (with_literals mine k r said) (omega arith)
    (λ i lits at. let e : k + suc i ≡ suc k + i = omega arith in
    subst (λ (n : ℕ). holds n ≡ are_set (map (wanted mine) lits) s) e (tells (suc i) lits at))
    ∙ (literals_say mine holds v k (decided value (decisions_by mine kept removed) v s) r said
    ∙ ap (λ (x : Bool). evaluated holds v (cond x (value_in (map (wanted mine) r) v (decided value (decisions_by mine kept removed) v s))
    (decided value (decisions_by mine kept removed) v s)) said) here)
