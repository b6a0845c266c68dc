-- Gates with more after them, and the value of each.
use Rattle.std.proofs.Common.{arith, ◌≡◌, ◌<◌, ◌≤◌, ◌+◌, ℕ, zero, suc, Bool, List, [], ◌∷◌, ◌++◌, Some, slice_get, refl}
use Rattle.std.proofs.Common.{ap, sym, subst, length, ◌∙◌}
use Rattle.std.proofs.lemmas.Grind.{common_steps}
use Rattle.std.proofs.lemmas.List.{length-append, append_assoc}
use Rattle.aiger.specs.Wires.{Wire, value_at, plain}
use Rattle.aiger.specs.Circuits.{Gate, KeepsGates, StandBelow, gate_value}
use Rattle.aiger.specs.Building.{AreGates, Built, Grows, HasValues, next_of}

pub keeps_left : (n : ℕ) (a b : List Gate) (run : ℕ → Bool) → KeepsGates n (a ++ b) run → KeepsGates n a run
keeps_left n [] b run k = tt
keeps_left n (g ∷ a) b run k = (k.0, keeps_left (suc n) a b run k.1)

pub keeps_at : (n : ℕ) (gates : List Gate) (run : ℕ → Bool) (i : ℕ) (g : Gate) → slice_get gates i ≡ Some g → KeepsGates n gates run
    → run (n + i) ≡ gate_value run g
keeps_at n [] run i g at k = absurd (grind (arith, common_steps))
keeps_at n (h ∷ gates) run zero g at k =
    let e : h ≡ g = cc in
    let z : n + 0 ≡ n = omega arith in
    subst (λ (m : ℕ). run m ≡ gate_value run g) (sym z) (subst (λ (x : Gate). run n ≡ gate_value run x) e k.0)
keeps_at n (h ∷ gates) run (suc i) g at k =
    let z : suc n + i ≡ n + suc i = omega arith in
    subst (λ (m : ℕ). run m ≡ gate_value run g) z (keeps_at (suc n) gates run i g at k.1)

pub below_more : (n : ℕ) (gates : List Gate) (g : Gate) → StandBelow n gates → g.left.var < n + length gates
    → g.right.var < n + length gates
    → StandBelow n (gates ++ g ∷ [])
below_more n [] g b l r = (omega arith, omega arith, tt)
below_more n (h ∷ gates) g b l r = (b.0, b.1, below_more (suc n) gates g b.2 (omega (arith, l)) (omega (arith, r)))

-- ---- one gate more

pub pushed_gates : (first : ℕ) (gates more : List Gate) (g : Gate) → AreGates first gates → more ≡ gates ++ g ∷ []
    → first + length gates < 2147483648
    → g.left.var < first + length gates → g.right.var < first + length gates → AreGates first more
pushed_gates first gates more g are is less left right =
    subst (λ (gs : List Gate). AreGates first gs) (sym is) (record {
      some = are.some;
      few = simp length-append (omega arith);
      below = below_more first gates g are.below left right;
    })

last_at : (gates : List Gate) (g : Gate) → slice_get (gates ++ g ∷ []) (length gates) ≡ Some g
last_at [] g = refl
last_at (h ∷ gates) g = last_at gates g

pub found_value : (b : Built) (i : ℕ) (g : Gate) (w : Wire) → slice_get b.gates i ≡ Some g → w ≡ plain (b.first + i)
    → (run : ℕ → Bool) → HasValues b run → value_at run w ≡ gate_value run g
found_value b i g w at is run has =
    subst (λ (x : Wire). value_at run x ≡ gate_value run g) (sym is) (keeps_at b.first b.gates run i g at has.keeps)

pub pushed_value : (b : Built) (gates : List Gate) (g : Gate) (w : Wire) (i : ℕ) → b.gates ≡ gates ++ g ∷ [] → i ≡ length gates
    → w ≡ plain (b.first + i) → (run : ℕ → Bool) → HasValues b run → value_at run w ≡ gate_value run g
pushed_value b gates g w i is count named =
    let at : slice_get b.gates (length gates)
    ≡ Some g = subst (λ (gs : List Gate). slice_get gs (length gates) ≡ Some g) (sym is) (last_at gates g) in
    found_value b i g w (subst (λ (k : ℕ). slice_get b.gates k ≡ Some g) (sym count) at) named

-- ---- gates with others after them

pub grows_same : (b : Built) → Grows b b
grows_same b = record { same = refl; more = []; grown = grind (arith, common_steps) }

pub grows_then : (a b c : Built) → Grows a b → Grows b c → Grows a c
grows_then a b c g h = record {
  same = h.same ∙ g.same;
  more = g.more ++ h.more;
  grown = h.grown ∙ (ap (λ (gs : List Gate). gs ++ h.more) g.grown ∙ append_assoc a.gates g.more h.more);
}

pub next_grows : (a b : Built) → Grows a b → next_of a ≤ next_of b
next_grows a b g =
    let count : length b.gates ≡ length a.gates + length g.more = ap length g.grown ∙ length-append a.gates g.more in
    let same : b.first ≡ a.first = g.same in omega arith

pub values_before : (a b : Built) (run : ℕ → Bool) → Grows a b → HasValues b run → HasValues a run
values_before a b run g has = record {
  constant = has.constant;
  keeps = keeps_left a.first a.gates g.more run
      (subst (λ (n : ℕ). KeepsGates n (a.gates
      ++ g.more) run) g.same (subst (λ (gs : List Gate). KeepsGates b.first gs run) g.grown has.keeps));
}
