-- Numbers that follow one after the other, and gates whose names are such.
use Rattle.std.proofs.Common.{arith, ◌≡◌, ℕ, zero, suc, ◌+◌, ◌<◌, ◌≤◌, true, List, [], ◌∷◌, ◌++◌, length, refl, sym, ap, subst, ◌∙◌, inl, inr}
use Rattle.std.proofs.Common.{eqb}
use Rattle.std.specs.List.{AllByRecursion, list_any, range_with_len}
use Rattle.std.proofs.lemmas.List.FromFn.{length-range_with_len}
use Rattle.qbf_core.proofs.Cited.{eqb_tells}
use Rattle.qbf_core.specs.Literal.{Literal}
use Rattle.qbf_core.specs.Members.{◌∈◌}
use Rattle.qbf_gates.specs.Gates.{Gate, IsOf, StandInOrder, gate_names, inputs_of}
use Rattle.qcir.proofs.Numbers.{IsUpTo, up_to}

-- ---- the last number

range_last : (a n : ℕ) → range_with_len a (suc n) ≡ range_with_len a n ++ (a + n) ∷ []
range_last a zero = let e : a ≡ a + 0 = omega arith in ap (λ (k : ℕ). k ∷ []) e
range_last a (suc n) =
    let e : a + 1 + n ≡ a + suc n = omega arith in
    ap (λ (ks : List ℕ). a ∷ ks) (range_last (a + 1) n ∙ ap (λ (k : ℕ). range_with_len (a + 1) n ++ k ∷ []) e)

pub up_to_is : (n : ℕ) → up_to n ≡ range_with_len 1 n
up_to_is zero = refl
up_to_is (suc n) =
    let e : suc n ≡ 1 + n = omega arith in
    ap (λ (ks : List ℕ). ks ++ suc n ∷ []) (up_to_is n) ∙ (ap (λ (k : ℕ). range_with_len 1 n ++ k ∷ []) e ∙ sym (range_last 1 n))

-- ---- members

pub in_range : (a n v : ℕ) → v ∈ range_with_len a n → (a ≤ v) × (v < a + n)
in_range a zero v h = absurd h
in_range a (suc n) v (inl e) = (omega (arith, e), omega (arith, e))
in_range a (suc n) v (inr h) = let rest = in_range (a + 1) n v h in (omega (arith, rest.0), omega (arith, rest.1))

pub range_within : (a n m : ℕ) → 1 ≤ a → a + n ≤ m + 1 → AllByRecursion (IsUpTo m) (range_with_len a n)
range_within a zero m low high = tt
range_within a (suc n) m low high = ((low, omega arith), range_within (a + 1) n m (omega arith) (omega arith))

-- the parts of a range are ranges
pub parts_of_range : (vs us : List ℕ) (a n : ℕ) → vs ++ us ≡ range_with_len a n
    → (vs ≡ range_with_len a (length vs)) × (us ≡ range_with_len (a + length vs) (length us))
parts_of_range [] us a n is =
    let many : n ≡ length us = sym (length-range_with_len a n) ∙ sym (ap length is) in
    let e : a ≡ a + 0 = omega arith in
    (refl, is ∙ (ap (range_with_len a) many ∙ ap (λ (k : ℕ). range_with_len k (length us)) e))
parts_of_range (v ∷ vs) us a zero is = absurd (cc is)
parts_of_range (v ∷ vs) us a (suc n) is =
    let first : v ≡ a = cc is in
    let others : vs ++ us ≡ range_with_len (a + 1) n = cc is in
    let rest = parts_of_range vs us (a + 1) n others in
    let e : a + 1 + length vs ≡ a + length (v ∷ vs) = omega arith in (
      ap (λ (k : ℕ). k ∷ vs) first ∙ ap (λ (ks : List ℕ). a ∷ ks) rest.0,
      rest.1 ∙ ap (λ (k : ℕ). range_with_len k (length us)) e,
    )

-- ---- gates

any_in : (v : ℕ) (vs : List ℕ) → list_any (λ w. eqb v w) vs ≡ true → v ∈ vs
any_in v [] there = absurd (cc there)
any_in v (u ∷ vs) there =
    elim (eqb_tells v u) [
      | inl (t, is) ↦ inl is
      | inr (f, differs) ↦ (let rest = rw f at there in inr (any_in v vs rest))
    ]

of_below : (known : List ℕ) (m : ℕ) (ls : List Literal) → ((v : ℕ) → v ∈ known → (1 ≤ v) × (v < m)) → AllByRecursion (IsOf known) ls
    → AllByRecursion (λ l. (1 ≤ l.var) × (l.var < m)) ls
of_below known m [] has of = tt
of_below known m (l ∷ ls) has of = (has l.var (any_in l.var known of.0), of_below known m ls has of.1)

pub order_below : (known : List ℕ) (gates : List (ℕ × Gate)) (m : ℕ) → 1 ≤ m → ((v : ℕ) → v ∈ known → (1 ≤ v) × (v < m))
    → gate_names gates ≡ range_with_len m (length gates) → StandInOrder known gates
    → AllByRecursion (λ g. AllByRecursion (λ l. (1 ≤ l.var) × (l.var < g.0)) (inputs_of g.1)) gates
order_below known [] m low has names order = tt
order_below known (g ∷ gates) m low has names order =
    let number : g.0 ≡ m = cc names in
    let others : gate_names gates ≡ range_with_len (m + 1) (length gates) = cc names in (
      subst (λ (k : ℕ). AllByRecursion (λ l. (1 ≤ l.var) × (l.var < k)) (inputs_of g.1)) (sym number)
          (of_below known m (inputs_of g.1) has order.0),
      order_below (g.0 ∷ known) gates (m + 1) (omega arith) (λ v. more v number) others order.1,
    )
  where
    more : (v : ℕ) → g.0 ≡ m → v ∈ (g.0 ∷ known) → (1 ≤ v) × (v < m + 1)
    more v number (inl e) = (omega (arith, e, number, low), omega (arith, e, number))
    more v number (inr h) = let old = has v h in (old.0, omega (arith, old.1))

pub of_range : (known : List ℕ) (l : Literal) (n : ℕ) → known ≡ range_with_len 1 n → IsOf known l → IsUpTo n l.var
of_range known l n is of =
    let range = in_range 1 n l.var (subst (λ (ks : List ℕ). l.var ∈ ks) is (any_in l.var known of)) in (range.0, omega (arith, range.1))
