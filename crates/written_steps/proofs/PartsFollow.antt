-- Steps that follow from a part of a list follow from the whole list.
use Rattle.qrp_rules.proofs.Cited.{◌≡◌, ℕ, List, ◌++◌, ◌⊎◌, None, inl, inr, sym, ◌∙◌, refl, arith, subst, Literal, ◌∈◌, ◌⊆◌, Block, Binds, Side, IsClean}
use Rattle.qrp_rules.proofs.Cited.{Clashes, IsReducible, deciding_quantifier, reduced_quantifier, resolvent, AllHold, StandsAfter}
use Rattle.qrp_rules.proofs.Cited.{reduct_conditions, resolvent_conditions, IsReducibleInParents, IsHeldBefore, positive, negative}
use Rattle.qrp_rules.proofs.Cited.{from_without, in_without, in_append, append_left, append_right}
use Rattle.qrp_rules.proofs.Cited.{Quantifier, ◌<◌, ◌≤◌, ◌+◌, length, get_or, take, take_more_in, in_take_more}
use Rattle.std.proofs.lemmas.List.{take_all}
use Rattle.qrp_rules.specs.declared.rules.Rules.{Rules}
use Rattle.qbf_core.proofs.Members.{in_or_not}
use Rattle.qrp_rules.proofs.Reducing.{quantifiers_differ}
use Rattle.written_steps.specs.declared.parts.Part.{Part}
use Rattle.written_steps.specs.declared.parts.Parts.{Parts}
use Rattle.written_steps.specs.Parts.{AreParts, IsPart, AreReducibleAfter, ReducesWhole, ResolvesWhole}

-- no literal with the deciding quantifier is reducible
not_reducible : (side : Side) (blocks : List Block) (lits : List Literal) (l : Literal)
    → Binds blocks (deciding_quantifier side) l.var → IsReducible side blocks lits l → ⊥
not_reducible side blocks lits l binds red = quantifiers_differ side (sym red.0 ∙ binds)

-- ---- a reduct

module _ (side : Side) (blocks : List Block) (whole part to : List Literal) (within : part ⊆ whole)
    (each : (l : Literal) → l ∈ whole → (l ∈ part) ⊎ (IsReducible side blocks to l ⊎ IsReducible side blocks part l))
    (follows : AllHold (reduct_conditions side blocks part to)) where
  deciding_kept : (l : Literal) → l ∈ whole → Binds blocks (deciding_quantifier side) l.var → l ∈ part
  deciding_kept l h binds = elim (each l h) [
    | inl k ↦ k
    | inr (inl red) ↦ absurd (not_reducible side blocks to l binds red)
    | inr (inr red) ↦ absurd (not_reducible side blocks part l binds red)
  ]

  of_part : (l : Literal) → IsReducible side blocks part l → IsReducible side blocks whole l
  of_part l red = (red.0, λ m h binds. red.1 m (deciding_kept m h binds) binds)

  in_to : (m : Literal) → m ∈ whole → Binds blocks (deciding_quantifier side) m.var → m ∈ to
  in_to m h binds = elim (follows.1.0 m (deciding_kept m h binds)) [
    | inl k ↦ k
    | inr red ↦ absurd (not_reducible side blocks part m binds red)
  ]

  of_to : (l : Literal) → IsReducible side blocks to l → IsReducible side blocks whole l
  of_to l red = (red.0, λ m h binds. red.1 m (in_to m h binds) binds)

  whole_reduct : AllHold (reduct_conditions side blocks whole to)
  whole_reduct = (
    (λ l h. within l (follows.0 l h)),
    (
      (λ l h. elim (each l h) [
        | inl k ↦ elim (follows.1.0 l k) [ inl i ↦ inl i | inr red ↦ inr (of_part l red) ]
        | inr (inl red) ↦ inr (of_to l red)
        | inr (inr red) ↦ inr (of_part l red)
      ]),
      tt,
    ),
  )

-- what a part lacks is reducible
lacking : (side : Side) (blocks : List Block) (reach : ℕ) (whole part to : List Literal) → AreReducibleAfter side blocks reach to part
    → IsPart blocks (reduced_quantifier side) reach whole part
    → (l : Literal) → l ∈ whole → (l ∈ part) ⊎ (IsReducible side blocks to l ⊎ IsReducible side blocks part l)
lacking side blocks reach whole part to (inl of) is l h = elim (is.each l h) [ inl k ↦ inl k | inr s ↦ inr (inl (of l s)) ]
lacking side blocks reach whole part to (inr of) is l h = elim (is.each l h) [ inl k ↦ inl k | inr s ↦ inr (inr (of l s)) ]

pub reduces_whole : (side : Side) (blocks : List Block) (reach : ℕ) (part to : List Literal) → AreReducibleAfter side blocks reach to part
    → ReducesWhole side blocks reach part to
reduces_whole side blocks reach part to after = λ whole is follows.
    whole_reduct side blocks whole part to is.within (lacking side blocks reach whole part to after is) follows

-- ---- a resolvent of two lists, each of which has a part; a variable that both have is in both parts

module _ (rules : Rules) (side : Side) (blocks : List Block) (a b one other to : List Literal) (within_a : one ⊆ a) (within_b : other ⊆ b)
    (each_a : (l : Literal) → l ∈ a → (l ∈ one) ⊎ (IsReducible side blocks to l ⊎ IsReducible side blocks one l))
    (each_b : (l : Literal) → l ∈ b → (l ∈ other) ⊎ (IsReducible side blocks to l ⊎ IsReducible side blocks other l))
    (shared : (l m : Literal) → l ∈ a → m ∈ b → l.var ≡ m.var → (l ∈ one) × (m ∈ other))
    (follows : AllHold (resolvent_conditions rules side blocks one other to)) where
  deciding_a : (l : Literal) → l ∈ a → Binds blocks (deciding_quantifier side) l.var → l ∈ one
  deciding_a l h binds = elim (each_a l h) [
    | inl k ↦ k
    | inr (inl red) ↦ absurd (not_reducible side blocks to l binds red)
    | inr (inr red) ↦ absurd (not_reducible side blocks one l binds red)
  ]

  deciding_b : (l : Literal) → l ∈ b → Binds blocks (deciding_quantifier side) l.var → l ∈ other
  deciding_b l h binds = elim (each_b l h) [
    | inl k ↦ k
    | inr (inl red) ↦ absurd (not_reducible side blocks to l binds red)
    | inr (inr red) ↦ absurd (not_reducible side blocks other l binds red)
  ]

  of_one : (l : Literal) → IsReducible side blocks one l → IsReducible side blocks a l
  of_one l red = (red.0, λ m h binds. red.1 m (deciding_a m h binds) binds)

  of_other : (l : Literal) → IsReducible side blocks other l → IsReducible side blocks b l
  of_other l red = (red.0, λ m h binds. red.1 m (deciding_b m h binds) binds)

  narrow : (v : ℕ) → Clashes a b v → Clashes one other v
  narrow v (inl (p, n)) = inl (shared (positive v) (negative v) p n refl)
  narrow v (inr (n, p)) = inr (shared (negative v) (positive v) n p refl)

  wide : (v : ℕ) → Clashes one other v → Clashes a b v
  wide v (inl (p, n)) = inl (within_a (positive v) p, within_b (negative v) n)
  wide v (inr (n, p)) = inr (within_a (negative v) n, within_b (positive v) p)

  -- the resolvent of the parts is within that of the lists, and has its deciding literals
  wider : (x : ℕ) (l : Literal) → l ∈ resolvent one other x → l ∈ resolvent a b x
  wider x l h = let w = from_without x (one ++ other) l h in in_without x (a ++ b) l (elim (in_append one other l w.0) [
    | inl k ↦ append_left a b l (within_a l k)
    | inr k ↦ append_right a b l (within_b l k)
  ]) w.1

  deciding_in : (x : ℕ) (l : Literal) → l ∈ resolvent a b x → Binds blocks (deciding_quantifier side) l.var → l ∈ resolvent one other x
  deciding_in x l h binds = let w = from_without x (a ++ b) l h in in_without x (one ++ other) l (elim (in_append a b l w.0) [
    | inl k ↦ append_left one other l (deciding_a l k binds)
    | inr k ↦ append_right one other l (deciding_b l k binds)
  ]) w.1

  parents_deciding : (x : ℕ) (l : Literal) → l ∈ resolvent one other x → Binds blocks (deciding_quantifier side) l.var
      → IsReducibleInParents side blocks one other l → ⊥
  parents_deciding x l h binds in_parents = elim (in_append one other l (from_without x (one ++ other) l h).0) [
    | inl k ↦ not_reducible side blocks one l binds (in_parents.0 k)
    | inr k ↦ not_reducible side blocks other l binds (in_parents.1 k)
  ]

  abbrev Left : (x : ℕ) → Literal → Type 0
  Left x l = (l ∈ to) ⊎ (IsReducible side blocks (resolvent a b x) l ⊎ IsReducibleInParents side blocks a b l)

  module _ (x : ℕ) (clash : Clashes a b x) where
    left_of_parts : (l : Literal) → l ∈ resolvent one other x
        → (l ∈ to) ⊎ (IsReducible side blocks (resolvent one other x) l ⊎ IsReducibleInParents side blocks one other l)
    left_of_parts = follows.1.1.1.1.0 x (narrow x clash)

    deciding_to : (m : Literal) → m ∈ resolvent a b x → Binds blocks (deciding_quantifier side) m.var → m ∈ to
    deciding_to m h binds = elim (left_of_parts m (deciding_in x m h binds)) [
      | inl k ↦ k
      | inr (inl red) ↦ absurd (not_reducible side blocks (resolvent one other x) m binds red)
      | inr (inr red) ↦ absurd (parents_deciding x m (deciding_in x m h binds) binds red)
    ]

    in_whole : (l : Literal) → IsReducible side blocks to l → IsReducible side blocks (resolvent a b x) l
    in_whole l red = (red.0, λ m h binds. red.1 m (deciding_to m h binds) binds)

    -- a literal of the parts
    of_parts : (l : Literal) → l ∈ resolvent one other x → (l ∈ a → l ∈ one) → (l ∈ b → l ∈ other) → Left x l
    of_parts l h in_one in_other = elim (left_of_parts l h) [
      | inl k ↦ inl k
      | inr (inl red) ↦ inr (inl (red.0, λ m k binds. red.1 m (deciding_in x m k binds) binds))
      | inr (inr red) ↦ inr (inr ((λ k. of_one l (red.0 (in_one k))), (λ k. of_other l (red.1 (in_other k)))))
    ]

    both_parts : (l : Literal) → l ∈ a → l ∈ b → (l.var ≡ x → ⊥) → Left x l
    both_parts l h k ne = let s = shared l l h k refl in
        of_parts l (in_without x (one ++ other) l (append_left one other l s.0) ne) (λ _. s.0) (λ _. s.1)

    only_a : (l : Literal) → l ∈ a → (l ∈ b → ⊥) → (l.var ≡ x → ⊥) → Left x l
    only_a l h out ne = elim (each_a l h) [
      | inl k ↦ of_parts l (in_without x (one ++ other) l (append_left one other l k) ne) (λ _. k) (λ i. absurd (out i))
      | inr (inl red) ↦ inr (inl (in_whole l red))
      | inr (inr red) ↦ inr (inr ((λ _. of_one l red), (λ i. absurd (out i))))
    ]

    only_b : (l : Literal) → l ∈ b → (l ∈ a → ⊥) → (l.var ≡ x → ⊥) → Left x l
    only_b l h out ne = elim (each_b l h) [
      | inl k ↦ of_parts l (in_without x (one ++ other) l (append_right one other l k) ne) (λ i. absurd (out i)) (λ _. k)
      | inr (inl red) ↦ inr (inl (in_whole l red))
      | inr (inr red) ↦ inr (inr ((λ i. absurd (out i)), (λ _. of_other l red)))
    ]

    left : (l : Literal) → l ∈ resolvent a b x → Left x l
    left l h = let w = from_without x (a ++ b) l h in elim (in_append a b l w.0) [
      | inl k ↦ elim (in_or_not l b) [ inl i ↦ both_parts l k i w.1 | inr out ↦ only_a l k out w.1 ]
      | inr k ↦ elim (in_or_not l a) [ inl i ↦ both_parts l i k w.1 | inr out ↦ only_b l k out w.1 ]
    ]

  whole_resolvent : AllHold (resolvent_conditions rules side blocks a b to)
  whole_resolvent = (
    (follows.0.0, wide follows.0.0 follows.0.1),
    (
      (λ x y c d. follows.1.0 x y (narrow x c) (narrow y d)),
      (
        (λ x c. follows.1.1.0 x (narrow x c)),
        ((λ x c l h. wider x l (follows.1.1.1.0 x (narrow x c) l h)), ((λ x c l h. left x c l h), tt)),
      ),
    ),
  )

pub resolves_whole : (side : Side) (blocks : List Block) (reach : ℕ) (part other to : List Literal)
    → AreReducibleAfter side blocks reach to part
    → ((l : Literal) → l ∈ other → StandsAfter blocks (reduced_quantifier side) reach l.var → ⊥)
    → ResolvesWhole side blocks reach part other to
resolves_whole side blocks reach part other to after apart = λ rules whole is. (
  (λ follows. whole_resolvent rules side blocks whole other part other to is.within (λ l h. h)
      (lacking side blocks reach whole part to after is) (λ l h. inl h) (λ l m h k e. (here whole is l m h k e, k)) follows),
  (λ follows. whole_resolvent rules side blocks other whole other part to (λ l h. h) is.within (λ l h. inl h)
      (lacking side blocks reach whole part to after is) (λ l m h k e. (h, here whole is m l k h (sym e))) follows),
)
  where
    here : (whole : List Literal) → IsPart blocks (reduced_quantifier side) reach whole part → (l m : Literal) → l ∈ whole → m ∈ other
        → l.var ≡ m.var → l ∈ part
    here whole is l m h k e = elim (is.each l h) [
      | inl i ↦ i
      | inr s ↦ absurd (apart m k (subst (λ (v : ℕ). StandsAfter blocks (reduced_quantifier side) reach v) e s))
    ]

-- ---- a part of the first literals of a list, and one literal more

pub part_more : (blocks : List Block) (q : Quantifier) (reach : ℕ) (xs : List Literal) (i : ℕ) (x : Literal) (old new : List Literal)
    → i < length xs → x ≡ get_or xs i x → ((l : Literal) → l ∈ new → (l ∈ old) ⊎ (l ≡ x)) → old ⊆ new
    → (x ∈ new) ⊎ StandsAfter blocks q reach x.var
    → IsPart blocks q reach (take i xs) old → IsPart blocks q reach (take (i + 1) xs) new
part_more blocks q reach xs i x old new less e within kept put is = record {
  within = λ l h. take_more_in xs i x l less e (elim (within l h) [ inl k ↦ inl (is.within l k) | inr f ↦ inr f ]);
  each = λ l h. elim (in_take_more xs i x l less e h) [
    | inl k ↦ elim (is.each l k) [ inl j ↦ inl (kept l j) | inr s ↦ inr s ]
    | inr f ↦ subst (λ (z : Literal). (z ∈ new) ⊎ StandsAfter blocks q reach z.var) (sym f) put
  ];
}

pub part_all : (blocks : List Block) (q : Quantifier) (reach : ℕ) (xs : List Literal) (i : ℕ) (part : List Literal)
    → length xs ≤ i → IsPart blocks q reach (take i xs) part → IsPart blocks q reach xs part
part_all blocks q reach xs i part long is = subst (λ (ys : List Literal). IsPart blocks q reach ys part) (take_all i xs long) is

-- a part that is lent
pub lent : (side : Side) (blocks : List Block) (kept : Parts) (n : ℕ) (whole lits : List Literal) (part : Part)
    → (part ∈ kept.parts.items) × (part.number ≡ n) → lits ≡ part.lits.items → AreParts side blocks kept n whole
    → IsPart blocks (reduced_quantifier side) part.reach whole lits
lent side blocks kept n whole lits part (h, e) same are =
    subst (λ (zs : List Literal). IsPart blocks (reduced_quantifier side) part.reach whole zs) (sym same) (are part h e)
