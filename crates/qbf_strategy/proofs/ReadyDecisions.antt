-- Decisions that see what stands before are ready at each variable that they set.
use Rattle.std.proofs.Common.{arith, ◌≡◌, ◌<◌, ◌≤◌, ◌+◌, ℕ, zero, suc, List, [], ◌∷◌, Some, slice_get}
use Rattle.std.proofs.Common.{refl, sym, ap, subst, ◌∙◌, length, map, nat_eq, inl, inr, ◌⊎◌}
use Rattle.std.proofs.lemmas.Option.{slice_get_cases, slice_get_within}
use Rattle.std.specs.List.{IsDistinct}
use Rattle.qbf_core.specs.Blocks.{variables}
use Rattle.qbf_core.specs.declared.quantifier.Quantifier.{Quantifier}
use Rattle.qbf_core.specs.Literal.{Literal}
use Rattle.qbf_core.specs.Members.{◌∈◌}
use Rattle.qbf_core.proofs.Members.{got_in}
use Rattle.aiger.specs.Wires.{Wire}
use Rattle.qbf_strategy.specs.Assembling.{IsAt}
use Rattle.qbf_strategy.specs.Chains.{AreBound, Sayings, with_lists, with_literals}
use Rattle.qbf_strategy.specs.Chosen.{AreReady}
use Rattle.qbf_strategy.specs.Computing.{SeesBefore, StandsBefore}
use Rattle.qbf_strategy.specs.Conditions.{IsReady, scene}
use Rattle.qbf_strategy.specs.Decisions.{Decision, decision_by, decisions_by, wanted}
use Rattle.qbf_strategy.proofs.ChainedEntries.{once}
use Rattle.qbf_strategy.proofs.FoundPlaces.{at_place}

in_map : (mine : Quantifier) (ls : List Literal) (l : Literal) → l ∈ ls → wanted mine l ∈ map (wanted mine) ls
in_map mine [] l h = absurd h
in_map mine (m ∷ ls) l (inl e) = inl (ap (wanted mine) e)
in_map mine (m ∷ ls) l (inr h) = inr (in_map mine ls l h)

-- ---- the decision of a literal that is set

-- the literal is one that the list at k has, counted from the place n on
record IsOf (mine : Quantifier) (n : ℕ) (lists : List (List Literal)) (k : ℕ) (l : Literal) : Type 0 where
  place : ℕ
  counted : k ≡ n + place
  lits : List Literal
  at : slice_get lists place ≡ Some lits
  lit : Literal
  there : lit ∈ lits
  is : l ≡ wanted mine lit

module _ (mine : Quantifier) where
  of_literals : (n k : ℕ) (ls : List Literal) (said : Sayings) (l : Literal) → (k, l) ∈ with_literals mine n ls said
      → ((k, l) ∈ said) ⊎ ((k ≡ n) × (m : Literal) × (m ∈ ls) × (l ≡ wanted mine m))
  of_literals n k [] said l h = inl h
  of_literals n k (x ∷ ls) said l h = elim (of_literals n k ls ((n, wanted mine x) ∷ said) l h) [
    | inl (inl e) ↦
        let number : ℕ × Literal → ℕ = λ y. y.0 in
        let literal : ℕ × Literal → Literal = λ y. y.1 in inr (ap number e, x, inl refl, ap literal e)
    | inl (inr before) ↦ inl before
    | inr (same, m, there, is) ↦ inr (same, m, inr there, is)
  ]

  of_lists : (n k : ℕ) (lists : List (List Literal)) (said : Sayings) (l : Literal) → (k, l) ∈ with_lists mine n lists said
      → ((k, l) ∈ said) ⊎ IsOf mine n lists k l
  of_lists n k [] said l h = inl h
  of_lists n k (ls ∷ lists) said l h = elim (of_lists (suc n) k lists (with_literals mine n ls said) l h) [
    | inl before ↦ elim (of_literals n k ls said l before) [
      | inl earlier ↦ inl earlier
      | inr (same, m, there, is) ↦ inr (record {
        place = 0;
        counted = omega (arith, same);
        lits = ls;
        at = refl;
        lit = m;
        there = there;
        is = is;
      })
    ]
    | inr of ↦ inr (record {
      place = suc of.place;
      counted = let e = of.counted in omega (arith, e);
      lits = of.lits;
      at = of.at;
      lit = of.lit;
      there = of.there;
      is = of.is;
    })
  ]

  decision_in : (kept removed : List (List Literal)) (k : ℕ) (ks rs : List Literal) → slice_get kept k ≡ Some ks
      → slice_get removed k ≡ Some rs → decision_by mine ks rs ∈ decisions_by mine kept removed
  decision_in [] removed k ks rs at there = absurd (cc at)
  decision_in (x ∷ kept) [] k ks rs at there = absurd (cc there)
  decision_in (x ∷ kept) (y ∷ removed) zero ks rs at there =
      let a : x ≡ ks = cc at in
      let b : y ≡ rs = cc there in
      inl (sym (ap (λ (ls : List Literal). decision_by mine ls y) a ∙ ap (λ (ls : List Literal). decision_by mine ks ls) b))
  decision_in (x ∷ kept) (y ∷ removed) (suc k) ks rs at there = inr (decision_in kept removed k ks rs at there)

  pub are_bound : (ps : List (Quantifier × ℕ)) (kept removed : List (List Literal)) → length removed ≤ length kept
      → SeesBefore ps (decisions_by mine kept removed) → AreBound mine ps removed
  are_bound ps kept removed few sees k lits at l h = elim (slice_get_cases kept k).1 [
    | inl (ks, _, there, _) ↦ sees.bound (decision_by mine ks lits) (decision_in kept removed k ks lits there at) (wanted mine l) (in_map mine lits l h)
    | inr (past, _) ↦ absurd (let within = slice_get_within removed k lits at in omega (arith, few, past, within))
  ]

  pub are_ready : (ps : List (Quantifier × ℕ)) (ws : List Wire) (kept removed : List (List Literal)) (v : ℕ)
      → IsDistinct nat_eq (variables ps) → length removed ≤ length kept → SeesBefore ps (decisions_by mine kept removed)
      → IsAt ps (length ws) v → AreReady (scene mine ps ws kept) v (with_lists mine 0 removed [])
  are_ready ps ws kept removed v distinct few sees here k l h var = elim (of_lists 0 k removed [] l h) [
    | inl none ↦ absurd none
    | inr of ↦
        let k_is : k ≡ of.place = (let e = of.counted in omega (arith, e)) in
        let within = slice_get_within removed of.place of.lits of.at in
        let var_of : Literal → ℕ = λ x. x.var in
        record {
          there = omega (arith, few, k_is, within);
          among = λ lits at m in_lits.
              let at_k : slice_get kept of.place ≡ Some lits = subst (λ (n : ℕ). slice_get kept n ≡ Some lits) k_is at in
              let before : StandsBefore ps (wanted mine m).var (wanted mine of.lit).var =
              sees.before (decision_by mine lits of.lits) (decision_in kept removed of.place lits of.lits at_k of.at)
              (wanted mine of.lit) (in_map mine of.lits of.lit of.there) (wanted mine m) (in_map mine lits m in_lits) in
              let v_is : (wanted mine of.lit).var ≡ v = sym (ap var_of of.is) ∙ var in
              let later : IsAt ps before.later v = subst (λ (n : ℕ). IsAt ps before.later n) v_is
              (at_place ps before.later (wanted mine of.lit).var before.there) in
              let e = once ps before.later (length ws) v distinct later here in
              let less = before.before in
              let first = at_place ps before.place (wanted mine m).var before.here in
              record {
                there = got_in (variables ps) before.place (wanted mine m).var before.here;
                before = λ i at_i. let same = once ps i before.place (wanted mine m).var distinct at_i first in omega (arith, e, less, same);
              };
        }
  ]
