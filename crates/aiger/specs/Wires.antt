-- Wires of a circuit (AIGER: Biere 2007, its literals): a variable or its negation.
use Rattle.std.specs.Prelude.{ℕ, ◌+◌, ◌*◌, ◌/◌, ◌%◌, Bool, false, not, nat_eq, if◌then◌else◌}

-- a variable of a circuit, or its negation
pub record Wire : Type 0 where
  pub var : ℕ
  pub negated : Bool

-- the number that AIGER writes for it
abbrev pub number_of : Wire → ℕ
number_of w = 2 * w.var + (if w.negated then 1 else 0)

-- the wire that a number stands for
abbrev pub wire_of : ℕ → Wire
wire_of n = record { var = n / 2; negated = nat_eq (n % 2) 1 }

-- the wire of a variable
abbrev pub plain : ℕ → Wire
plain v = record { var = v; negated = false }

-- the wire with the other value
abbrev pub opposite : Wire → Wire
opposite w = record { var = w.var; negated = not w.negated }

-- the wire, or the one with the other value
abbrev pub turned : Wire → Bool → Wire
turned w negated = if negated then opposite w else w

-- the wire that always has this value: variable 0 is false
abbrev pub constant : Bool → Wire
constant value = record { var = 0; negated = value }

-- the value of a wire, by those of the variables
abbrev pub value_at : (ℕ → Bool) → Wire → Bool
value_at run w = if w.negated then not (run w.var) else run w.var
