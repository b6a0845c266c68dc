-- Gates of choices between two wires.
use Rattle.std.proofs.Common.{arith, ◌≡◌, ◌<◌, ◌≤◌, ◌+◌, ◌-◌, ℕ, zero, suc, Bool, true, false, not, cond, List, [], ◌∷◌, Some, slice_get}
use Rattle.std.proofs.Common.{refl, sym, ap, subst, ◌∙◌, length}
use Rattle.std.proofs.lemmas.Grind.{common_steps}
use Rattle.aiger.specs.Building.{AreGates, Built, Grows, IsBoth, next_of}
use Rattle.aiger.specs.Choosing.{AreBelow, ChoosesAmong, IsChoice, IsChosen, IsGateOf, branch_value}
use Rattle.aiger.specs.Circuits.{Gate, StandBelow, both, gate_value}
use Rattle.aiger.specs.Wires.{Wire, constant, opposite, turned, value_at}
use Rattle.aiger.specs.declared.choosing.Branches.{Branches}
use Rattle.aiger.proofs.Folds.{constant_value, opposite_value}
use Rattle.aiger.proofs.KeptGates.{grows_same, grows_then, keeps_at, values_before}
use Rattle.aiger.proofs.TrimmedGates.{turned_value, turned_var}

-- ---- the gate of a variable

stands_at : (n : ℕ) (gates : List Gate) (i : ℕ) (g : Gate) → slice_get gates i ≡ Some g → StandBelow n gates
    → (g.left.var < n + i) × (g.right.var < n + i)
stands_at n [] i g at below = absurd (grind (arith, common_steps))
stands_at n (h ∷ gates) zero g at below =
    let e : h ≡ g = cc at in
    let l = below.0 in
    let r = below.1 in
    subst (λ (x : Gate). (x.left.var < n + 0) × (x.right.var < n + 0)) e (omega (arith, l), omega (arith, r))
stands_at n (h ∷ gates) (suc i) g at below =
    let rest = stands_at (suc n) gates i g at below.2 in
    let l = rest.0 in
    let r = rest.1 in
    (omega (arith, l), omega (arith, r))

within : (gates : List Gate) (i : ℕ) (g : Gate) → slice_get gates i ≡ Some g → i < length gates
within [] i g at = absurd (grind (arith, common_steps))
within (h ∷ gates) zero g at = omega arith
within (h ∷ gates) (suc i) g at = let rest = within gates i g at in omega (arith, rest)

pub gate_there : (b : Built) (v : ℕ) (g : Gate) → AreGates b.first b.gates → b.first ≤ v → slice_get b.gates (v - b.first) ≡ Some g
    → IsGateOf b v g
gate_there b v g are past at =
    let i : ℕ = v - b.first in
    let count : i < length b.gates = within b.gates (v - b.first) g at in
    let below = stands_at b.first b.gates (v - b.first) g at are.below in
    let l = below.0 in
    let r = below.1 in
    let e : b.first + (v - b.first) ≡ v = omega (arith, past) in
    record {
      left = omega (arith, l, count, past, e);
      right = omega (arith, r, count, past, e);
      value = λ run has.
          subst (λ (n : ℕ). run n ≡ gate_value run g) e (keeps_at b.first b.gates run (v - b.first) g at has.keeps);
    }

pub gate_in : (b : Built) (first v : ℕ) (gates : List Gate) (g : Gate) → b ≡ record { first = first; gates = gates }
    → AreGates first gates → first ≤ v → slice_get gates (v - first) ≡ Some g → IsGateOf b v g
gate_in b first v gates g is are past at =
    subst (λ (x : Built). IsGateOf x v g) (sym is) (gate_there (record { first = first; gates = gates }) v g are past at)

-- ---- a wire that chooses

turn_in : (o n y z : Bool) → cond n (not (cond o y z)) (cond o y z) ≡ cond o (cond n (not y) y) (cond n (not z) z)
turn_in true n y z = refl
turn_in false n y z = refl

branch_turned : (run : ℕ → Bool) (on : Wire) (br : Branches) (n : Bool)
    → cond n (not (branch_value run on br)) (branch_value run on br)
    ≡ branch_value run on (record { yes = turned br.yes n; no = turned br.no n })
branch_turned run on br n =
    turn_in (value_at run on) n (value_at run br.yes) (value_at run br.no)
    ∙ (ap (λ (x : Bool). cond (value_at run on) x (cond n (not (value_at run br.no)) (value_at run br.no))) (sym (turned_value run br.yes n))
    ∙ ap (λ (x : Bool). cond (value_at run on) (value_at run (turned br.yes n)) x) (sym (turned_value run br.no n)))

pub choice_same : (b : Built) (w on : Wire) (br : Branches) → w ≡ on → br.yes ≡ constant true → br.no ≡ constant false → 0 < next_of b
    → IsChoice b w on br
choice_same b w on br same first second some = record {
  below = (subst (λ (x : Wire). x.var < next_of b) (sym first) some, subst (λ (x : Wire). x.var < next_of b) (sym second) some);
  value = λ run has.
      ap (value_at run) same
      ∙ (by (value_at run on)
      ∙ (ap (λ (x : Bool). cond (value_at run on) x false) (sym (ap (value_at run) first ∙ constant_value run true has.constant))
      ∙ ap (λ (x : Bool). cond (value_at run on) (value_at run br.yes) x)
      (sym (ap (value_at run) second ∙ constant_value run false has.constant))));
}
  where
    by : (b : Bool) → b ≡ cond b true false
    by true = refl
    by false = refl

pub choice_gate : (b : Built) (w on : Wire) (g : Gate) (br new : Branches) → IsGateOf b w.var g → ChoosesAmong b g on br
    → new ≡ record { yes = turned br.yes w.negated; no = turned br.no w.negated } → IsChoice b w on new
choice_gate b w on g br new of chooses is = subst (λ (x : Branches). IsChoice b w on x) (sym is) (record {
  below = (
    subst (λ (n : ℕ). n < next_of b) (sym (turned_var br.yes w.negated)) chooses.below.0,
    subst (λ (n : ℕ). n < next_of b) (sym (turned_var br.no w.negated)) chooses.below.1,
  );
  value = λ run has.
      ap (λ (x : Bool). cond w.negated (not x) x) (of.value run has ∙ chooses.value run has)
      ∙ branch_turned run on br w.negated;
})

-- ---- gates that are put

three : (o y n : Bool) → not (both (not (both o y)) (not (both (not o) n))) ≡ cond o y n
three true true n = refl
three true false n = refl
three false y true = refl
three false y false = refl

pub joined : (a b c d : Built) (on : Wire) (br : Branches) (x y z : Wire) → Grows a b → Grows b c → Grows c d → IsBoth b on br.yes x
    → IsBoth c (opposite on) br.no y → IsBoth d (opposite x) (opposite y) z → z.var < next_of d → IsChosen a d on br (opposite z)
joined a b c d on br x y z ab bc cd first second third below = record {
  grows = grows_then a b d ab (grows_then b c d bc cd);
  below = below;
  value = λ run has.
      let has_c = values_before c d run cd has in
      let has_b = values_before b c run bc has_c in
      opposite_value run z
      ∙ (ap not (third run has
      ∙ (ap (λ (v : Bool). both v (value_at run (opposite y))) (opposite_value run x ∙ ap not (first run has_b))
      ∙ ap (λ (v : Bool). both (not (both (value_at run on) (value_at run br.yes))) v)
      (opposite_value run y ∙ ap not (second run has_c ∙ ap (λ (v : Bool). both v (value_at run br.no)) (opposite_value run on)))))
      ∙ three (value_at run on) (value_at run br.yes) (value_at run br.no));
}

pub chosen_same : (b : Built) (on : Wire) (br : Branches) → br.yes ≡ br.no → AreBelow (next_of b) br → IsChosen b b on br br.yes
chosen_same b on br same below = record {
  grows = grows_same b;
  below = below.0;
  value = λ run has.
      by (value_at run on) (value_at run br.yes)
      ∙ ap (λ (w : Wire). cond (value_at run on) (value_at run br.yes) (value_at run w)) same;
}
  where
    by : (c v : Bool) → v ≡ cond c v v
    by true v = refl
    by false v = refl

pub chosen_turned : (a b : Built) (on : Wire) (br other : Branches) (w : Wire)
    → other ≡ record { yes = turned br.yes true; no = turned br.no true } → IsChosen a b on other w → IsChosen a b on br (opposite w)
chosen_turned a b on br other w is chosen = record {
  grows = chosen.grows;
  below = chosen.below;
  value = λ run has.
      opposite_value run w
      ∙ (ap not (chosen.value run has ∙ ap (branch_value run on) is)
      ∙ (ap not (sym (branch_turned run on br true)) ∙ twice (branch_value run on br)));
}
  where
    twice : (v : Bool) → not (not v) ≡ v
    twice true = refl
    twice false = refl
