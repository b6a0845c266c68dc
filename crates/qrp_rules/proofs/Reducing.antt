-- Reducible literals by one innermost block.
use Rattle.std.proofs.Common.{max, min}
use Rattle.qrp_rules.proofs.Cited.{arith, ◌≡◌, ◌∙◌, ◌<◌, ℕ, zero, suc, List, ◌++◌, ◌⊎◌, ◌↔◌, ◌≤◌, Option, Some, None, refl, sym, subst, inl, inr, rules, cases_eq}
use Rattle.qrp_rules.proofs.Cited.{Quantifier, Literal, ◌∈◌, Block, Binds, Side, reduced_quantifier, deciding_quantifier}
use Rattle.qrp_rules.proofs.Cited.{Clashes, IsReducible, resolvent, in_append, append_left, append_right, in_without, from_without}
use Rattle.qrp_rules.proofs.Cited.{IsReducibleInParents, Accounts, IsHeldBefore, IsInnermost, StandsAfter, TakesOut, ◌⊆◌, AllHold, reduct_conditions}
use Rattle.qbf_core.specs.Blocks.{block_in, pairs}
use Rattle.qbf_core.proofs.Bound.{binds_in, in_bound, block_found}
use Rattle.qbf_core.proofs.Members.{in_or_not}
use Rattle.qrp_rules.proofs.Clashing.{clash_var, clash_var_right}
use Rattle.qrp_rules.specs.declared.blocks.Reducible.{Reducible}
use Rattle.qrp_rules.specs.Walks.{Covers, IsThePivot}

-- a variable that a quantifier binds has a block
pub binds_block : (blocks : List Block) (q : Quantifier) (v : ℕ) → Binds blocks q v → block_in v blocks ≡ None → ⊥
binds_block blocks q v binds none =
    let found = block_found blocks v (in_bound (pairs blocks) q v (binds_in (pairs blocks) q v binds)) in
    cc (found, none)

-- a position is after the blocks that reach to a variable's exactly if it is after that block
module _ (blocks : List Block) (q : Quantifier) (v : ℕ) where
  abbrev Some_block : ℕ → Type 0
  Some_block reach = (i : ℕ) → reach ≡ suc i → Binds blocks q v × (block_in v blocks ≡ Some i)

  pub reach_held : (reach : ℕ) → Some_block reach → (reach ≡ 0 → Binds blocks q v → ⊥) → (k : ℕ)
      → reach ≤ k ↔ (Binds blocks q v → (i : ℕ) → block_in v blocks ≡ Some i → i < k)
  reach_held zero some none k = ((λ le binds. absurd (none refl binds)), (λ all. omega arith))
  reach_held (suc n) some none k =
      let here = some n refl in (
        (λ le _ i e. let both : Some n ≡ Some i = sym here.1 ∙ e in let same : n ≡ i = cc both in subst (λ j. j < k) same le),
        (λ all. all here.0 n here.1),
      )

  pub reach_stands : (reach limit : ℕ) → Some_block reach → (reach ≡ 0 → Binds blocks q v → ⊥)
      → limit < reach ↔ StandsAfter blocks q limit v
  reach_stands zero limit some none = ((λ less. absurd (omega (arith, less))), (λ stands. absurd (none refl stands.0)))
  reach_stands (suc n) limit some none =
      let here = some n refl in (
        (λ less. (here.0, λ k e. let both : Some n ≡ Some k = sym here.1 ∙ e in let same : n ≡ k = cc both in omega (arith, less, same))),
        (λ stands. omega (arith, stands.1 n here.1)),
      )

-- the positions after the farther one of two reaches, and after the nearer one
pub after_max : (a b both : ℕ) → both ≡ max a b → (k : ℕ) → both ≤ k ↔ (a ≤ k × b ≤ k)
after_max a b both e k = ((λ le. (omega (arith, e, le), omega (arith, e, le))), (λ h. omega (arith, e, h.0, h.1)))

pub after_min : (a b both : ℕ) → both ≡ min a b → (k : ℕ) → both ≤ k ↔ (a ≤ k ⊎ b ≤ k)
after_min a b both e k = search (rules, e)

-- one more literal
pub innermost_more : (blocks : List Block) (q : Quantifier) (pivot : Option ℕ) (old one new : ℕ) (xs zs : List Literal) (x : Literal)
    → ((m : Literal) → m ∈ zs → (m ∈ xs) ⊎ (m ≡ x)) → ((m : Literal) → (m ∈ xs) ⊎ (m ≡ x) → m ∈ zs)
    → ((k : ℕ) → one ≤ k ↔ IsHeldBefore blocks q pivot x.var k) → ((k : ℕ) → new ≤ k ↔ (old ≤ k × one ≤ k))
    → IsInnermost blocks q pivot xs old → IsInnermost blocks q pivot zs new
innermost_more blocks q pivot old one new xs zs x cases wider held both is k = (
  (λ le m h. let w = (both k).0 le in elim (cases m h) [
    | inl i ↦ (is k).0 w.0 m i
    | inr e ↦ subst (λ (l : Literal). IsHeldBefore blocks q pivot l.var k) (sym e) ((held k).0 w.1)
  ]),
  (λ all. (both k).1 ((is k).1 (λ m i. all m (wider m (inl i))), (held k).1 (all x (wider x (inr refl))))),
)

-- of a resolvent, by those of its antecedents without the pivot
pub innermost_resolvent : (blocks : List Block) (q : Quantifier) (a b : List Literal) (x : ℕ) (in_a in_b whole : ℕ)
    → IsInnermost blocks q (Some x) a in_a → IsInnermost blocks q (Some x) b in_b
    → ((k : ℕ) → whole ≤ k ↔ (in_a ≤ k × in_b ≤ k))
    → IsInnermost blocks q None (resolvent a b x) whole
innermost_resolvent blocks q a b x in_a in_b whole is_a is_b both k = (
  (λ after m h. λ _.
      let w = from_without x (a ++ b) m h in
      let after_both = (both k).0 after in
      elim (in_append a b m w.0) [
        | inl i ↦ (is_a k).0 after_both.0 m i w.1
        | inr i ↦ (is_b k).0 after_both.1 m i w.1
      ]),
  (λ all. (both k).1 (
    (is_a k).1 (λ m i out. all m (in_without x (a ++ b) m (append_left a b m i) out) (λ none. none)),
    (is_b k).1 (λ m i out. all m (in_without x (a ++ b) m (append_right a b m i) out) (λ none. none)),
  )),
)

-- a literal stands after the innermost block exactly if it is reducible
pub reducible_after : (side : Side) (blocks : List Block) (reduced deciding : Quantifier) (lits : List Literal) (block : ℕ)
    → reduced ≡ reduced_quantifier side → deciding ≡ deciding_quantifier side → IsInnermost blocks deciding None lits block
    → (l : Literal) → StandsAfter blocks reduced block l.var ↔ IsReducible side blocks lits l
reducible_after side blocks reduced deciding lits block er ed is l = (
  (λ stands. (
    subst (λ q. Binds blocks q l.var) er stands.0,
    λ m h binds i k ei ek. (is k).0 (stands.1 k ek) m h (λ none. none) (subst (λ q. Binds blocks q m.var) (sym ed) binds) i ei,
  )),
  (λ red. (
    subst (λ q. Binds blocks q l.var) (sym er) red.0,
    λ k ek. (is k).1 (λ m h _ binds i ei. red.1 m h (subst (λ q. Binds blocks q m.var) ed binds) i k ei ek),
  )),
)

-- a literal that is reducible in a list is so with more literals that have the reduced quantifier
pub quantifiers_differ : (side : Side) → Some (reduced_quantifier side) ≡ Some (deciding_quantifier side) → ⊥
quantifiers_differ side e = search rules

pub reducible_wider : (side : Side) (blocks : List Block) (May : Literal → Type 0) (from to : List Literal)
    → ((l : Literal) → May l ↔ IsReducible side blocks to l) → ((l : Literal) → l ∈ from → (l ∈ to) ⊎ May l)
    → (l : Literal) → May l → IsReducible side blocks from l
reducible_wider side blocks May from to same each l may = search (rules, quantifiers_differ)

-- so a list within another, without literals that may be left out, is a reduct
pub reduct_without : (side : Side) (blocks : List Block) (May : Literal → Type 0) (from to : List Literal)
    → ((l : Literal) → May l ↔ IsReducible side blocks to l) → to ⊆ from → ((l : Literal) → l ∈ from → (l ∈ to) ⊎ May l)
    → AllHold (reduct_conditions side blocks from to)
reduct_without side blocks May from to same within each = search (rules, reducible_wider)

-- so a literal that may be left out is reducible, if there is no pivot
pub each_reducible : (side : Side) (blocks : List Block) (reducible : Reducible) (from to : List Literal)
    → ((l : Literal) → TakesOut reducible l.var ↔ IsReducible side blocks from l)
    → Covers (Some reducible) None from to ↔ ((l : Literal) → l ∈ from → (l ∈ to) ⊎ IsReducible side blocks from l)
each_reducible side blocks reducible from to same = search rules

-- a variable stands after the outer one of two blocks exactly if it stands after one of them
stands_outer : (blocks : List Block) (q : Quantifier) (one other both : ℕ) (v : ℕ)
    → ((k : ℕ) → both ≤ k ↔ (one ≤ k ⊎ other ≤ k))
    → StandsAfter blocks q both v ↔ (StandsAfter blocks q one v ⊎ StandsAfter blocks q other v)
stands_outer blocks q one other both v outer = ((λ stands. at_block stands (block_in v blocks) refl), by_one)
  where
    by_one : StandsAfter blocks q one v ⊎ StandsAfter blocks q other v → StandsAfter blocks q both v
    by_one (inl stands) = (stands.0, λ k e. (outer k).1 (inl (stands.1 k e)))
    by_one (inr stands) = (stands.0, λ k e. (outer k).1 (inr (stands.1 k e)))

    at_one : (block : ℕ) (k : ℕ) → block_in v blocks ≡ Some k → block ≤ k → (j : ℕ) → block_in v blocks ≡ Some j → block ≤ j
    at_one block k e h j f = let both : Some k ≡ Some j = sym e ∙ f in let same : k ≡ j = cc both in subst (λ i. block ≤ i) same h

    at_block : StandsAfter blocks q both v → (found : Option ℕ) → block_in v blocks ≡ found
        → StandsAfter blocks q one v ⊎ StandsAfter blocks q other v
    at_block stands None e = absurd (binds_block blocks q v stands.0 e)
    at_block stands (Some k) e = elim ((outer k).0 (stands.1 k e)) [
      | inl h ↦ inl (stands.0, at_one one k e h)
      | inr h ↦ inr (stands.0, at_one other k e h)
    ]

-- the innermost block of a whole list, by that without one variable of it
innermost_whole : (blocks : List Block) (q : Quantifier) (lits : List Literal) (x : ℕ) (beside own whole : ℕ)
    → (l : Literal) × (l ∈ lits) × (l.var ≡ x) → IsInnermost blocks q (Some x) lits beside
    → ((k : ℕ) → own ≤ k ↔ IsHeldBefore blocks q None x k)
    → ((k : ℕ) → whole ≤ k ↔ (beside ≤ k × own ≤ k)) → IsInnermost blocks q None lits whole
innermost_whole blocks q lits x beside own whole (m, h, is) is_beside is_own both k = (
  (λ after l i. λ _ binds j e. let w = (both k).0 after in elim (cases_eq l.var x) [
    | inl same ↦ subst (λ (v : ℕ). IsHeldBefore blocks q None v k) (sym same) ((is_own k).0 w.1) (λ none. none) binds j e
    | inr other ↦ (is_beside k).0 w.0 l i other binds j e
  ]),
  (λ all. (both k).1 (
    (is_beside k).1 (λ l i. λ _. all l i (λ none. none)),
    (is_own k).1 (subst (λ (v : ℕ). IsHeldBefore blocks q None v k) is (all m h)),
  )),
)

-- the blocks that are found of an antecedent: beside the pivot, the pivot's, its own, and the outer one of its own and the resolvent's
pub record FoundBlocks (blocks : List Block) (deciding : Quantifier) (from : List Literal) (x : ℕ)
    (beside of_pivot own whole both : ℕ) : Type 0 where
  pub is_beside : IsInnermost blocks deciding (Some x) from beside
  pub is_of_pivot : (k : ℕ) → of_pivot ≤ k ↔ IsHeldBefore blocks deciding None x k
  pub is_own : (k : ℕ) → own ≤ k ↔ (beside ≤ k × of_pivot ≤ k)
  pub is_both : (k : ℕ) → both ≤ k ↔ (whole ≤ k ⊎ own ≤ k)

-- a literal that may be left out of the antecedents is reducible in the resolvent or in them
module _ (side : Side) (blocks : List Block) (reduced deciding : Quantifier) (er : reduced ≡ reduced_quantifier side)
    (ed : deciding ≡ deciding_quantifier side) (a b to : List Literal) (x : ℕ) where
  abbrev Red : List Literal → Literal → Type 0
  Red from l = IsReducible side blocks from l

  -- one antecedent, after its block
  abbrev IsCovered : List Literal → ℕ → Type 0
  IsCovered from block = (l : Literal) → l ∈ from → (l ∈ to) ⊎ ((l.var ≡ x) ⊎ StandsAfter blocks reduced block l.var)

  abbrev IsSplit : List Literal → ℕ → Type 0
  IsSplit from block = (l : Literal) → StandsAfter blocks reduced block l.var ↔ (Red (resolvent a b x) l ⊎ Red from l)

  split : (from : List Literal) (beside of_pivot own whole both : ℕ) → IsInnermost blocks deciding None (resolvent a b x) whole
      → FoundBlocks blocks deciding from x beside of_pivot own whole both → (m : Literal) × (m ∈ from) × (m.var ≡ x) → IsSplit from both
  split from beside of_pivot own whole both is_whole found pivot l =
      let outer = stands_outer blocks reduced whole own both l.var found.is_both in
      let of_whole = reducible_after side blocks reduced deciding (resolvent a b x) whole er ed is_whole l in
      let of_own = reducible_after side blocks reduced deciding from own er ed
      (innermost_whole blocks deciding from x beside of_pivot own pivot found.is_beside found.is_of_pivot found.is_own) l in (
        (λ stands. elim (outer.0 stands) [ inl s ↦ inl (of_whole.0 s) | inr s ↦ inr (of_own.0 s) ]),
        (λ red. outer.1 (elim red [ inl r ↦ inl (of_whole.1 r) | inr r ↦ inr (of_own.1 r) ])),
      )

  covered : (from : List Literal) (block : ℕ) → IsSplit from block → ((l : Literal) → l ∈ from → l ∈ (a ++ b))
      → ((l : Literal) → l ∈ from → IsReducibleInParents side blocks a b l → Red from l) → Accounts side blocks a b to x → IsCovered from block
  covered from block is within parent all l h = elim (cases_eq l.var x) [
    | inl e ↦ inr (inl e)
    | inr ne ↦ elim (all l (in_without x (a ++ b) l (within l h) ne)) [
      | inl k ↦ inl k
      | inr (inl red) ↦ inr (inr ((is l).1 (inl red)))
      | inr (inr both) ↦ inr (inr ((is l).1 (inr (parent l h both))))
    ]
  ]

  -- a literal of the resolvent is kept or reducible there, or reducible in the antecedent if that has it
  one_accounts : (from : List Literal) (block : ℕ) → IsSplit from block → IsCovered from block → (l : Literal) → (l.var ≡ x → ⊥)
      → ((l ∈ to) ⊎ Red (resolvent a b x) l) ⊎ (l ∈ from → Red from l)
  one_accounts from block is all l ne = search (rules, in_or_not)

  pub parents_account : (beside_a beside_b of_pivot own_a own_b whole in_a in_b : ℕ) → Clashes a b x
      → ((k : ℕ) → whole ≤ k ↔ (beside_a ≤ k × beside_b ≤ k))
      → FoundBlocks blocks deciding a x beside_a of_pivot own_a whole in_a → FoundBlocks blocks deciding b x beside_b of_pivot own_b whole in_b
      → Accounts side blocks a b to x ↔ (IsCovered a in_a × IsCovered b in_b)
  parents_account beside_a beside_b of_pivot own_a own_b whole in_a in_b clash both found_a found_b = (
    (λ all. (
      covered a in_a split_a (append_left a b) (λ l h both. both.0 h) all,
      covered b in_b split_b (append_right a b) (λ l h both. both.1 h) all,
    )),
    (λ each l h. let ne = (from_without x (a ++ b) l h).1 in elim (one_accounts a in_a split_a each.0 l ne) [
      | inl done ↦ kept l done
      | inr red_a ↦ elim (one_accounts b in_b split_b each.1 l ne) [ inl done ↦ kept l done | inr red_b ↦ inr (inr (red_a, red_b)) ]
    ]),
  )
    where
      is_whole : IsInnermost blocks deciding None (resolvent a b x) whole
      is_whole = innermost_resolvent blocks deciding a b x beside_a beside_b whole found_a.is_beside found_b.is_beside both

      split_a : IsSplit a in_a
      split_a = split a beside_a of_pivot own_a whole in_a is_whole found_a (clash_var a b x clash)

      split_b : IsSplit b in_b
      split_b = split b beside_b of_pivot own_b whole in_b is_whole found_b (clash_var_right a b x clash)

      kept : (l : Literal) → (l ∈ to) ⊎ Red (resolvent a b x) l
          → (l ∈ to) ⊎ (Red (resolvent a b x) l ⊎ IsReducibleInParents side blocks a b l)
      kept l h = search rules

-- if nothing but the pivot is left out of either antecedent, nothing is left out of their resolvent
pub resolvent_kept : (side : Side) (blocks : List Block) (a b to : List Literal) (x : ℕ) → Covers None (Some x) a to
    → Covers None (Some x) b to → Accounts side blocks a b to x
resolvent_kept side blocks a b to x in_a in_b l h =
    let w = from_without x (a ++ b) l h in
    let kept : (l ∈ to) ⊎ IsThePivot (Some x) l.var = elim (in_append a b l w.0) [ inl i ↦ in_a l i | inr i ↦ in_b l i ] in
    elim kept [ inl k ↦ inl k | inr pivot ↦ absurd (w.1 pivot) ]
