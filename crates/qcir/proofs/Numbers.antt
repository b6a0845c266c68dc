-- Numbers from 1 on, and gates that stand in order.
use Rattle.std.proofs.Common.{arith, ◌≡◌, ℕ, zero, suc, ◌<◌, ◌≤◌, true, false, List, [], ◌∷◌, ◌++◌, refl, sym, ap, subst}
use Rattle.std.proofs.Common.{◌⊎◌, inl, inr, eqb}
use Rattle.std.specs.List.{AllByRecursion, IsDistinct, list_any}
use Rattle.qbf_core.proofs.Cited.{eqb_tells}
use Rattle.lists.proofs.DistinctNumbers.{push_distinct}
use Rattle.qbf_core.specs.Literal.{Literal}
use Rattle.qbf_core.specs.Members.{◌∈◌}
use Rattle.qbf_gates.specs.declared.kind.GateKind.{GateKind}
use Rattle.qbf_gates.specs.declared.kind.GateKind.TheVariants.{Choice, Conjunction, Difference, Disjunction}
use Rattle.qbf_gates.specs.Gates.{Gate, IsOf, StandInOrder, gate_names, inputs_of}
use Rattle.qbf_gates.specs.Kept.{gate_of}

-- the numbers from 1 to n
abbrev pub up_to : ℕ → List ℕ
up_to zero = []
up_to (suc n) = up_to n ++ suc n ∷ []

-- a number in a range
abbrev pub IsUpTo : ℕ → ℕ → Type 0
IsUpTo n v = (1 ≤ v) × (v ≤ n)

all_push : (P : ℕ → Type 0) (vs : List ℕ) (v : ℕ) → AllByRecursion P vs → P v → AllByRecursion P (vs ++ v ∷ [])
all_push P [] v all own = (own, tt)
all_push P (u ∷ vs) v all own = (all.0, all_push P vs v all.1 own)

pub all_within : (n m : ℕ) → n ≤ m → AllByRecursion (IsUpTo m) (up_to n)
all_within zero m less = tt
all_within (suc n) m less = all_push (IsUpTo m) (up_to n) (suc n) (all_within n m (omega arith)) (omega arith, less)

other : (vs : List ℕ) (n v : ℕ) → AllByRecursion (IsUpTo n) vs → n < v → list_any (eqb v) vs ≡ false
other [] n v all more = refl
other (u ∷ vs) n v all more =
    elim (eqb_tells v u) [
      | inl (t, is) ↦ absurd (omega (arith, is, all.0.1))
      | inr (f, _) ↦ rw f (other vs n v all.1 more)
    ]

pub all_distinct : (n : ℕ) → IsDistinct eqb (up_to n)
unfolding IsDistinct
all_distinct zero = tt
all_distinct (suc n) = push_distinct (up_to n) (suc n) (all_distinct n) (other (up_to n) n (suc n) (all_within n n (omega arith)) (omega arith))

in_left : (v : ℕ) (vs us : List ℕ) → v ∈ vs → v ∈ (vs ++ us)
in_left v [] us h = absurd h
in_left v (u ∷ vs) us (inl e) = inl e
in_left v (u ∷ vs) us (inr h) = inr (in_left v vs us h)

in_last : (v : ℕ) (vs : List ℕ) → v ∈ (vs ++ v ∷ [])
in_last v [] = inl refl
in_last v (u ∷ vs) = inr (in_last v vs)

pub among : (n v : ℕ) → 1 ≤ v → v ≤ n → v ∈ up_to n
among zero v low high = absurd (omega arith)
among (suc n) v low high =
    elim (eqb_tells v (suc n)) [
      | inl (t, is) ↦ subst (λ (w : ℕ). w ∈ (up_to n ++ suc n ∷ [])) (sym is) (in_last (suc n) (up_to n))
      | inr (f, differs) ↦ in_left v (up_to n) (suc n ∷ []) (among n v low (omega arith))
    ]

pub either : (v : ℕ) (vs us : List ℕ) → v ∈ (vs ++ us) → (v ∈ vs) ⊎ (v ∈ us)
either v [] us h = inr h
either v (u ∷ vs) us (inl e) = inl (inl e)
either v (u ∷ vs) us (inr h) = elim (either v vs us h) [ inl m ↦ inl (inr m) | inr m ↦ inr m ]

in_any : (v : ℕ) (vs : List ℕ) → v ∈ vs → list_any (λ w. eqb v w) vs ≡ true
in_any v [] h = absurd h
in_any v (u ∷ vs) (inl e) =
    elim (eqb_tells v u) [ inl (t, _) ↦ rw t refl | inr (f, differs) ↦ absurd (differs e) ]
in_any v (u ∷ vs) (inr h) =
    elim (eqb_tells v u) [ inl (t, _) ↦ rw t refl | inr (f, _) ↦ rw f (in_any v vs h) ]

-- ---- gates in order

-- the inputs are of variables in a range
abbrev pub AreUpTo : ℕ → List Literal → Type 0
AreUpTo n ls = AllByRecursion (λ l. IsUpTo n l.var) ls

pub inputs_up_to : (n : ℕ) (kind : GateKind) (ls : List Literal) → AreUpTo n ls → AreUpTo n (inputs_of (gate_of kind ls))
inputs_up_to n Conjunction ls all = all
inputs_up_to n Disjunction ls all = all
inputs_up_to n Difference (a ∷ b ∷ []) all = all
inputs_up_to n Difference [] all = all
inputs_up_to n Difference (a ∷ []) all = all
inputs_up_to n Difference (a ∷ b ∷ c ∷ ls) all = all
inputs_up_to n Choice [] all = all
inputs_up_to n Choice (a ∷ []) all = all
inputs_up_to n Choice (a ∷ b ∷ []) all = all
inputs_up_to n Choice (a ∷ b ∷ c ∷ []) all = all
inputs_up_to n Choice (a ∷ b ∷ c ∷ d ∷ ls) all = all

all_of : (known : List ℕ) (n : ℕ) (ls : List Literal) → ((v : ℕ) → 1 ≤ v → v ≤ n → v ∈ known) → AreUpTo n ls → AllByRecursion (IsOf known) ls
all_of known n [] has all = tt
all_of known n (l ∷ ls) has all = (in_any l.var known (has l.var all.0.0 all.0.1), all_of known n ls has all.1)

pub one_of : (known : List ℕ) (l : Literal) → l.var ∈ known → IsOf known l
one_of known l h = in_any l.var known h

pub one_gate_more : (known : List ℕ) (gates : List (ℕ × Gate)) (g : ℕ × Gate) (n : ℕ)
    → ((v : ℕ) → 1 ≤ v → v ≤ n → (v ∈ known) ⊎ (v ∈ gate_names gates)) → AreUpTo n (inputs_of g.1) → StandInOrder known gates
    → StandInOrder known (gates ++ g ∷ [])
one_gate_more known [] g n has all order =
    (all_of known n (inputs_of g.1) (λ v low high. elim (has v low high) [ inl m ↦ m | inr m ↦ absurd m ]) all, tt)
one_gate_more known (h ∷ gates) g n has all order =
    (order.0, one_gate_more (h.0 ∷ known) gates g n (λ v low high. moved (has v low high)) all order.1)
  where
    moved : {v : ℕ} → (v ∈ known) ⊎ (v ∈ (h.0 ∷ gate_names gates)) → (v ∈ (h.0 ∷ known)) ⊎ (v ∈ gate_names gates)
    moved (inl m) = inl (inr m)
    moved (inr (inl e)) = inl (inl e)
    moved (inr (inr m)) = inr m

pub names_more : (gates : List (ℕ × Gate)) (g : ℕ × Gate) → gate_names (gates ++ g ∷ []) ≡ gate_names gates ++ g.0 ∷ []
names_more [] g = refl
names_more (h ∷ gates) g = ap (λ (ns : List ℕ). h.0 ∷ ns) (names_more gates g)
