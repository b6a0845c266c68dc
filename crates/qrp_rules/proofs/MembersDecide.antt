-- Rules look at members alone: lists with the same members meet the same conditions.
use Rattle.qrp_rules.proofs.Cited.{◌≡◌, ℕ, List, [], ◌∷◌, ◌++◌, ◌⊎◌, Option, inl, inr, refl, ◌∙◌, rules, Literal, ◌∈◌, ◌⊆◌, Block, Qbf}
use Rattle.qrp_rules.proofs.Cited.{Side, Clauses, Cubes, IsReducible, IsReduct, Clashes, resolvent, IsInitial, HasMembersOf, in_without}
use Rattle.qrp_rules.proofs.Cited.{from_without, RuleFault, Rules, Condition, AllHold, IsFirstFailure, IsFaultOf, IsReducibleInParents}
use Rattle.qrp_rules.proofs.Cited.{reduct_conditions, resolvent_conditions, initial_condition, in_append, append_left, append_right}

-- two lists of conditions have equal names, and each condition of the one follows from that of the other
abbrev pub AreImplied : List (Condition RuleFault) → List (Condition RuleFault) → Type 0
AreImplied [] [] = Unit {0}
AreImplied [] (r ∷ rs) = ⊥
AreImplied (q ∷ qs) [] = ⊥
AreImplied ((n, p) ∷ qs) ((m, r) ∷ rs) = (n ≡ m) × (p → r) × AreImplied qs rs

same_hold : (qs rs : List (Condition RuleFault)) → AreImplied qs rs → AllHold qs → AllHold rs
same_hold [] [] s all = tt
same_hold ((n, p) ∷ qs) ((m, r) ∷ rs) s all = (s.1 all.0, same_hold qs rs s.2 all.1)
same_hold qs rs s all = absurd s

same_fails : (qs rs : List (Condition RuleFault)) (fault : RuleFault) → AreImplied qs rs → AreImplied rs qs → IsFirstFailure qs fault
    → IsFirstFailure rs fault
same_fails [] [] fault s b f = f
same_fails ((n, p) ∷ qs) ((m, r) ∷ rs) fault s b (inl (out, is)) = inl ((λ h. out (b.1 h)), is ∙ s.0)
same_fails ((n, p) ∷ qs) ((m, r) ∷ rs) fault s b (inr (h, later)) = inr (s.1 h, same_fails qs rs fault s.2 b.2 later)
same_fails qs rs fault s b f = absurd s

pub same_answer : (qs rs : List (Condition RuleFault)) (answer : Option RuleFault) → AreImplied qs rs → AreImplied rs qs
    → IsFaultOf qs answer → IsFaultOf rs answer
same_answer qs rs answer s b all = search (rules, same_hold, same_fails)

pub same_self : (a : List Literal) → HasMembersOf a a
same_self a = ((λ l h. h), (λ l h. h))

pub same_back : (a b : List Literal) → HasMembersOf a b → HasMembersOf b a
same_back a b s = (s.1, s.0)

same_reducible : (side : Side) (blocks : List Block) (a b : List Literal) (l : Literal) → HasMembersOf a b → IsReducible side blocks a l
    → IsReducible side blocks b l
same_reducible side blocks a b l s red = (red.0, λ m h d. red.1 m (s.1 m h) d)

same_clashes : (a a' b b' : List Literal) (x : ℕ) → HasMembersOf a a' → HasMembersOf b b' → Clashes a b x → Clashes a' b' x
same_clashes a a' b b' x s t h = search rules

resolvent_to : (a a' b b' : List Literal) (x : ℕ) → HasMembersOf a a' → HasMembersOf b b' → (l : Literal) → l ∈ resolvent a b x
    → l ∈ resolvent a' b' x
resolvent_to a a' b b' x s t l h =
    let w = from_without x (a ++ b) l h in
    in_without x (a' ++ b') l
    (elim (in_append a b l w.0) [ inl i ↦ append_left a' b' l (s.0 l i) | inr i ↦ append_right a' b' l (t.0 l i) ]) w.1

same_resolvent : (a a' b b' : List Literal) (x : ℕ) → HasMembersOf a a' → HasMembersOf b b'
    → HasMembersOf (resolvent a b x) (resolvent a' b' x)
same_resolvent a a' b b' x s t = (resolvent_to a a' b b' x s t, resolvent_to a' a b' b x (same_back a a' s) (same_back b b' t))

-- one antecedent
each_same : (side : Side) (blocks : List Block) (a a' to to' : List Literal) → HasMembersOf a a' → HasMembersOf to to'
    → ((l : Literal) → l ∈ a → (l ∈ to) ⊎ IsReducible side blocks a l) → (l : Literal) → l ∈ a' → (l ∈ to') ⊎ IsReducible side blocks a' l
each_same side blocks a a' to to' s t all l h = search (rules, same_reducible)

reduct_implied : (side : Side) (blocks : List Block) (a a' to to' : List Literal) → HasMembersOf a a' → HasMembersOf to to'
    → AreImplied (reduct_conditions side blocks a to) (reduct_conditions side blocks a' to')
reduct_implied side blocks a a' to to' s t = search (rules, each_same)

pub reduct_members : (side : Side) (blocks : List Block) (a a' to to' : List Literal) → HasMembersOf a a' → HasMembersOf to to'
    → IsReduct side blocks a to → IsReduct side blocks a' to'
reduct_members side blocks a a' to to' s t r = search (rules, each_same)

-- two antecedents
within_same : (a a' b b' to to' : List Literal) → HasMembersOf a a' → HasMembersOf b b' → HasMembersOf to to'
    → ((x : ℕ) → Clashes a b x → to ⊆ resolvent a b x) → (x : ℕ) → Clashes a' b' x → to' ⊆ resolvent a' b' x
within_same a a' b b' to to' s t u w x c l h = search (rules, resolvent_to, same_clashes, same_back, u.1)

accounts_same : (side : Side) (blocks : List Block) (a a' b b' to to' : List Literal) → HasMembersOf a a' → HasMembersOf b b'
    → HasMembersOf to to'
    → ((x : ℕ) → Clashes a b x → (l : Literal) → l ∈ resolvent a b x
    → (l ∈ to) ⊎ (IsReducible side blocks (resolvent a b x) l ⊎ IsReducibleInParents side blocks a b l))
    → (x : ℕ) → Clashes a' b' x → (l : Literal) → l ∈ resolvent a' b' x
    → (l ∈ to') ⊎ (IsReducible side blocks (resolvent a' b' x) l ⊎ IsReducibleInParents side blocks a' b' l)
accounts_same side blocks a a' b b' to to' s t u w x c l h =
    let s' = same_back a a' s in
    let t' = same_back b b' t in
    elim (w x (same_clashes a' a b' b x s' t' c) l (resolvent_to a' a b' b x s' t' l h)) [
      | inl k ↦ inl (u.0 l k)
      | inr (inl red) ↦ inr (inl (same_reducible side blocks (resolvent a b x) (resolvent a' b' x) l (same_resolvent a a' b b' x s t) red))
      | inr (inr both) ↦ inr (inr
          ((λ i. same_reducible side blocks a a' l s (both.0 (s.1 l i))), (λ i. same_reducible side blocks b b' l t (both.1 (t.1 l i)))))
    ]

resolvent_implied : (rules : Rules) (side : Side) (blocks : List Block) (a a' b b' to to' : List Literal) → HasMembersOf a a'
    → HasMembersOf b b' → HasMembersOf to to'
    → AreImplied (resolvent_conditions rules side blocks a b to) (resolvent_conditions rules side blocks a' b' to')
resolvent_implied rules side blocks a a' b b' to to' s t u = (
  refl,
  (λ h. (h.0, same_clashes a a' b b' h.0 s t h.1)),
  (
    refl,
    (λ h x y p q. h x y (back x p) (back y q)),
    (refl, (λ h x p. h x (back x p)), (refl, within_same a a' b b' to to' s t u, (refl, accounts_same side blocks a a' b b' to to' s t u, tt))),
  ),
)
  where
    back : (x : ℕ) → Clashes a' b' x → Clashes a b x
    back x = same_clashes a' a b' b x (same_back a a' s) (same_back b b' t)

-- no antecedent
initial_to : (side : Side) (f : Qbf) (to to' : List Literal) → HasMembersOf to to' → IsInitial side f to → IsInitial side f to'
initial_to Clauses f to to' t (clause, h, clean, r) = (clause, h, clean, reduct_members Clauses f.blocks clause clause to to' (same_self clause) t r)
initial_to Cubes f to to' t all = λ clause h. elim (all clause h) [ inl k ↦ inl k | inr (l, i, j) ↦ inr (l, i, t.0 l j) ]

initial_implied : (side : Side) (f : Qbf) (to to' : List Literal) → HasMembersOf to to'
    → AreImplied (initial_condition side f to ∷ []) (initial_condition side f to' ∷ [])
initial_implied Clauses f to to' t = (refl, initial_to Clauses f to to' t, tt)
initial_implied Cubes f to to' t = (refl, initial_to Cubes f to to' t, tt)

-- the answer of a test is also that for lists with the same members
pub reduct_answer : (side : Side) (blocks : List Block) (a a' to to' : List Literal) (answer : Option RuleFault) → HasMembersOf a a'
    → HasMembersOf to to'
    → IsFaultOf (reduct_conditions side blocks a to) answer → IsFaultOf (reduct_conditions side blocks a' to') answer
reduct_answer side blocks a a' to to' answer s t = search (rules, same_answer, reduct_implied, same_back)

pub resolvent_answer : (rules : Rules) (side : Side) (blocks : List Block) (a a' b b' to to' : List Literal) (answer : Option RuleFault)
    → HasMembersOf a a' → HasMembersOf b b' → HasMembersOf to to'
    → IsFaultOf (resolvent_conditions rules side blocks a b to) answer → IsFaultOf (resolvent_conditions rules side blocks a' b' to') answer
resolvent_answer rules side blocks a a' b b' to to' answer s t u = search (rules, same_answer, resolvent_implied, same_back)

pub initial_answer : (side : Side) (f : Qbf) (to to' : List Literal) (answer : Option RuleFault) → HasMembersOf to to'
    → IsFaultOf (initial_condition side f to ∷ []) answer → IsFaultOf (initial_condition side f to' ∷ []) answer
initial_answer side f to to' answer t = search (rules, same_answer, initial_implied, same_back)
