-- Wires of conditions that are kept, each list under the number of its decision.
use Rattle.std.proofs.Common.{arith, ◌≡◌, ◌≤◌, ◌+◌, ◌-◌, ℕ, List, [], ◌∷◌, ◌++◌, Some, slice_get}
use Rattle.std.proofs.Common.{Option, None, IfSome}
use Rattle.std.proofs.Common.{refl, sym, ap, subst, ◌∙◌, length, inl, inr}
use Rattle.std.proofs.lemmas.Option.{slice_get_within}
use Rattle.std.proofs.lemmas.List.{length-append}
use Rattle.lists.proofs.PushedItems.{pushed_cases}
use Rattle.qbf_core.specs.Literal.{Literal}
use Rattle.aiger.specs.Wires.{Wire}
use Rattle.qbf_strategy.specs.declared.ordered.OrderedWires.{OrderedWires}
use Rattle.qbf_strategy.specs.Assembling.{ArePlaced}
use Rattle.qbf_strategy.specs.Conditions.{KeptFrom, Scene}
use Rattle.qbf_strategy.specs.Ordering.{AreOrdered, AreWiresOf, IsList}

pub found : (at : Scene) (o : OrderedWires) (k n : ℕ) (wires : List Wire) → slice_get o.numbers.items k ≡ Some n → IsList o n wires
    → AreOrdered at o → AreWiresOf at k wires
found at o k n wires there is ordered = ordered.placed k n wires there is

pub added : (at : Scene) (old new : OrderedWires) (decision number : ℕ) (wires : List Wire)
    → new.lists.whole ≡ old.lists.whole ++ wires ∷ [] → number ≡ length new.lists.whole
    → KeptFrom old.numbers.items new.numbers.items decision number → AreOrdered at old → AreWiresOf at decision wires → AreOrdered at new
added at old new decision number wires is counted keeps ordered are =
    let one : length new.lists.whole ≡ length old.lists.whole + 1 = ap length is ∙ length-append old.lists.whole (wires ∷ []) in
    record {
      numbered = λ k n there. elim (keeps k n there) [
        | inl (same, last) ↦ omega (arith, last, counted)
        | inr before ↦ let few = ordered.numbered k n before in omega (arith, one, few)
      ];
      placed = λ k n some there list lits here.
          let pushed : slice_get (old.lists.whole ++ wires ∷ []) (n - 1) ≡ Some some =
          subst (λ (ls : List (List Wire)). slice_get ls (n - 1) ≡ Some some) is list.there in
          elim (pushed_cases old.lists.whole wires (n - 1) some pushed) [
            | inl first ↦ elim (keeps k n there) [
              | inl (same, last) ↦ absurd
                  (let within = slice_get_within old.lists.whole (n - 1) some first in
                  omega (arith, one, last, counted, within))
              | inr before ↦ ordered.placed k n some before (record { some = list.some; there = first }) lits here
            ]
            | inr (place, last) ↦ elim (keeps k n there) [
              | inl (same, _) ↦ subst (λ (ws : List Wire). ArePlaced at.ps at.ws at.mine lits ws) (sym last)
                  (are lits (subst (λ (i : ℕ). slice_get at.kept i ≡ Some lits) same here))
              | inr before ↦ absurd (let few = ordered.numbered k n before in let some = list.some in omega (arith, few, some, place))
            ]
          ];
    }

pub some_weaker : {X : Type 0} {P Q : X → Type 0} (o : Option X) → ((x : X) → P x → Q x) → IfSome o P → IfSome o Q
some_weaker None f p = p
some_weaker (Some x) f p = f x p
