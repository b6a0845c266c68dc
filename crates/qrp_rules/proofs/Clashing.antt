-- The variables in which two sets clash, found by a walk over one of them.
use Rattle.qrp_rules.proofs.Cited.{◌≡◌, ◌<◌, ◌≤◌, ◌+◌, ℕ, suc, zero, List, [], ◌∷◌, ◌⊎◌, length, get_or, take, refl, inl, inr, arith, Some}
use Rattle.qrp_rules.proofs.Cited.{None, Option, rules, Literal, negated, positive, negative, ◌∈◌, Clashes, IsOnlyClash, IsOrdered, in_at}
use Rattle.qrp_rules.proofs.Cited.{in_take_more, in_take_all, take_more_in, take_within, clash_here}

-- the one variable of the clash so far, if there is one
abbrev pub IsClashSoFar : List Literal → List Literal → Option ℕ → Type 0
IsClashSoFar a b None = (x : ℕ) → Clashes a b x → ⊥
IsClashSoFar a b (Some x) = IsOnlyClash a b x

pub taken_below : (xs : List Literal) (i : ℕ) (x m : Literal) → IsOrdered xs → i < length xs → x ≡ get_or xs i x → m ∈ take i xs
    → m.var < x.var
taken_below [] i x m o less e h = absurd (omega arith)
taken_below (y ∷ xs) zero x m o less e h = absurd h
taken_below (y ∷ xs) (suc i) x m o less e (inl f) = search (rules, in_at)
taken_below (y ∷ xs) (suc i) x m o less e (inr h) = taken_below xs i x m o.1 (omega arith) e h

-- the clash with one more literal
pub clash_cases : (a b : List Literal) (i v : ℕ) (x : Literal) → i < length a → x ≡ get_or a i x → Clashes (take (i + 1) a) b v
    → Clashes (take i a) b v ⊎ ((v ≡ x.var) × (negated x ∈ b))
clash_cases a b i v x less e (inl (p, q)) = elim (in_take_more a i x (positive v) less e p) [
  | inl k ↦ inl (inl (k, q))
  | inr f ↦ search rules
]
clash_cases a b i v x less e (inr (p, q)) = elim (in_take_more a i x (negative v) less e p) [
  | inl k ↦ inl (inr (k, q))
  | inr f ↦ search rules
]

pub clash_wider : (a a' b : List Literal) (v : ℕ) → ((l : Literal) → l ∈ a → l ∈ a') → Clashes a b v → Clashes a' b v
clash_wider a a' b v wide h = search rules

-- a variable that clashes is that of a literal
pub clash_var : (a b : List Literal) (v : ℕ) → Clashes a b v → (l : Literal) × (l ∈ a) × (l.var ≡ v)
clash_var a b v (inl (p, q)) = (positive v, p, refl)
clash_var a b v (inr (p, q)) = (negative v, p, refl)

pub clash_var_right : (a b : List Literal) (v : ℕ) → Clashes a b v → (l : Literal) × (l ∈ b) × (l.var ≡ v)
clash_var_right a b v (inl (p, q)) = (negative v, q, refl)
clash_var_right a b v (inr (p, q)) = (positive v, q, refl)

-- one more literal that does not clash
pub clash_same : (a b : List Literal) (i : ℕ) (x : Literal) (found : Option ℕ) → i < length a → x ≡ get_or a i x → (negated x ∈ b → ⊥)
    → IsClashSoFar (take i a) b found → IsClashSoFar (take (i + 1) a) b found
clash_same a b i x None less e out none = λ v h. elim (clash_cases a b i v x less e h) [ inl k ↦ none v k | inr k ↦ out k.1 ]
clash_same a b i x (Some y) less e out one = record {
  clashes = clash_wider (take i a) (take (i + 1) a) b y (λ l h. take_more_in a i x l less e (inl h)) one.clashes;
  only = λ v h. elim (clash_cases a b i v x less e h) [ inl k ↦ one.only v k | inr k ↦ absurd (out k.1) ];
}

pub clash_first : (a b : List Literal) (i : ℕ) (x : Literal) → i < length a → x ≡ get_or a i x → negated x ∈ b
    → ((v : ℕ) → Clashes (take i a) b v → ⊥) → IsOnlyClash (take (i + 1) a) b x.var
clash_first a b i x less e h none = record {
  clashes = clash_here (take (i + 1) a) b x (take_more_in a i x x less e (inr refl)) h;
  only = λ v k. elim (clash_cases a b i v x less e k) [ inl q ↦ absurd (none v q) | inr q ↦ q.0 ];
}

pub clash_second : (a b : List Literal) (i y : ℕ) (x : Literal) → IsOrdered a → i < length a → x ≡ get_or a i x → negated x ∈ b
    → IsOnlyClash (take i a) b y
    → (v : ℕ) × (w : ℕ) × Clashes a b v × Clashes a b w × (v ≡ w → ⊥)
clash_second a b i y x o less e h one =
    let l = clash_var (take i a) b y one.clashes in
    let lt : l.0.var < x.var = taken_below a i x l.0 o less e l.1 in
    let is : l.0.var ≡ y = l.2 in (
      y,
      x.var,
      clash_wider (take i a) a b y (λ m k. take_within a i m k) one.clashes,
      clash_here a b x (in_at a i x less e) h,
      λ same. let f : y ≡ x.var = same in absurd (omega arith),
    )

pub clash_none : (a b : List Literal) (i : ℕ) → length a ≤ i → ((v : ℕ) → Clashes (take i a) b v → ⊥) → (v : ℕ) → Clashes a b v → ⊥
clash_none a b i long none v h = none v (clash_wider a (take i a) b v (λ l k. in_take_all a i l long k) h)
