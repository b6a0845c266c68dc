-- Wires whose conjunction needs no gate.
use Rattle.std.proofs.Common.{◌≡◌, ℕ, Bool, true, false, not, cond, refl, sym, ap, ◌∙◌}
use Rattle.aiger.specs.Wires.{Wire, value_at, opposite, constant}
use Rattle.aiger.specs.Circuits.{both}
use Rattle.aiger.specs.Building.{IsFolded, StandsForBoth}

both_comm : (a b : Bool) → both a b ≡ both b a
both_comm true true = refl
both_comm true false = refl
both_comm false true = refl
both_comm false false = refl

both_not : (a : Bool) → both a (not a) ≡ false
both_not true = refl
both_not false = refl

both_same : (a : Bool) → both a a ≡ a
both_same true = refl
both_same false = refl

pub opposite_value : (run : ℕ → Bool) (w : Wire) → value_at run (opposite w) ≡ not (value_at run w)
opposite_value run w = by w.negated (run w.var)
  where
    by : (n r : Bool) → cond (not n) (not r) r ≡ not (cond n (not r) r)
    by true true = refl
    by true false = refl
    by false true = refl
    by false false = refl

pub constant_value : (run : ℕ → Bool) (b : Bool) → run 0 ≡ false → value_at run (constant b) ≡ b
constant_value run true z = rw z refl
constant_value run false z = z

pub same_folded : (left right : Wire) → left ≡ right → IsFolded left right right
same_folded left right e run z =
    sym (ap (λ (w : Wire). both (value_at run w) (value_at run right)) e ∙ both_same (value_at run right))

pub true_folded : (left right : Wire) → left ≡ constant true → IsFolded left right right
true_folded left right e run z =
    sym (ap (λ (w : Wire). both (value_at run w) (value_at run right)) e
    ∙ ap (λ (b : Bool). both b (value_at run right)) (constant_value run true z))

pub false_folded : (left right : Wire) → left ≡ constant false → IsFolded left right (constant false)
false_folded left right e run z =
    z ∙ sym (ap (λ (w : Wire). both (value_at run w) (value_at run right)) e
    ∙ ap (λ (b : Bool). both b (value_at run right)) (constant_value run false z))

pub opposite_folded : (left right : Wire) → right ≡ opposite left → IsFolded left right (constant false)
opposite_folded left right e run z =
    z ∙ sym (ap (λ (w : Wire). both (value_at run left) (value_at run w)) e
    ∙ (ap (λ (b : Bool). both (value_at run left) b) (opposite_value run left) ∙ both_not (value_at run left)))

-- the order of two wires does not matter
pub turned_folded : (left right w : Wire) → IsFolded left right w → IsFolded right left w
turned_folded left right w f run z = f run z ∙ both_comm (value_at run left) (value_at run right)

pub turned_gate : (left right : Wire) → StandsForBoth left right (record { left = right; right = left })
turned_gate left right run = both_comm (value_at run right) (value_at run left)

pub same_gate : (left right : Wire) → StandsForBoth left right (record { left = left; right = right })
same_gate left right run = refl
