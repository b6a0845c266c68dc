-- Steps as they are written, in any order, follow from what the walk over them shows.
use Rattle.written_steps.specs.Accepted.{IsAcceptedBy, IsAcceptedStep, IsFit}
use Rattle.qrp_rules.proofs.Cited.{IsTrue, ◌≡◌, ◌<◌, ◌≤◌, ◌+◌, ℕ, List, ◌∷◌, ◌++◌, ◌⊎◌, ◌↔◌, Bool, length, get_or, take, drop}
use Rattle.qrp_rules.proofs.Cited.{slice_get, Some, None, refl, rules, sym, ap, subst, ◌∙◌, inl, inr, arith, cases_eq, take-append-drop}
use Rattle.qrp_rules.proofs.Cited.{Literal, negated, ◌∈◌, ◌⊆◌, Block, Side, Clashes, IsClean, IsOnlyClash, IsReducible}
use Rattle.qrp_rules.proofs.Cited.{resolvent, in_without, from_without, in_take_all, in_take_more, in_append, append_left, append_right}
use Rattle.qrp_rules.proofs.Cited.{take_more_in, take_within, got_in, AllHold, AllowsPivot, resolvent_conditions}
use Rattle.qrp_rules.specs.declared.rules.Rules.{Rules}
use Rattle.written_steps.proofs.Cited.{IsApart, IsMergeSoFar, IsNext, IsPutBy, Has, Members}
use Rattle.qrp_rules.proofs.Cited.{Accounts, clash_here, clean_within, slice_get_read, Err}
use Rattle.qrp_rules.proofs.Cited.{IfOk, Ok, Result, AreBound, common_steps}
use Rattle.std.proofs.lemmas.List.{take_all}
use Rattle.qbf_core.proofs.Inferences.{resolvent_clean, resolvent_bound}
use Rattle.qbf_core.proofs.Members.{negated_differs, negated_twice, drop_within}
use Rattle.written_steps.specs.TwoLists.{IsMergeBut, IsResolvedBut}
use Rattle.written_steps.proofs.Merging.{in_pass, pass_in, pass_inside, pass_takes, split_at}
use Rattle.qrp_rules.proofs.ResolventRows.{at_pivot}

-- ---- one literal more

pub merge_more : (a b to : List Literal) (i j k i' j' : ℕ) (x : Literal) → k < length to → x ≡ get_or to k x
    → IsNext a i x i' → IsNext b j x j' → (i' ≡ i → j' ≡ j → ⊥) → IsMergeSoFar a b to i j k → IsMergeSoFar a b to i' j' (k + 1)
merge_more a b to i j k i' j' x less e p q moved u = record {
  in_a = pass_inside a i i' x p u.in_a;
  in_b = pass_inside b j j' x q u.in_b;
  from = λ l h. elim (in_take_more to k x l less e h) [
    | inl old ↦ elim (u.from l old) [ inl r ↦ inl (in_pass a i i' x l p r) | inr r ↦ inr (in_pass b j j' x l q r) ]
    | inr f ↦ subst (λ (z : Literal). (z ∈ take i' a) ⊎ (z ∈ take j' b)) (sym f) here
  ];
  left = λ l h. take_more_in to k x l less e (elim (pass_in a i i' x l p h) [ inl r ↦ inl (u.left l r) | inr f ↦ inr f ]);
  right = λ l h. take_more_in to k x l less e (elim (pass_in b j j' x l q h) [ inl r ↦ inl (u.right l r) | inr f ↦ inr f ]);
}
  where
    here : (x ∈ take i' a) ⊎ (x ∈ take j' b)
    here = elim (cases_eq i' i) [
      | inl same ↦ inr (pass_takes b j j' x q (λ f. moved same f))
      | inr ne ↦ inl (pass_takes a i i' x p ne)
    ]

-- ---- two walks, before and after the pivot

pub in_parts : (xs : List Literal) (n : ℕ) (l : Literal) → l ∈ xs → (l ∈ take n xs) ⊎ (l ∈ drop n xs)
in_parts xs n l h = in_append (take n xs) (drop n xs) l (subst (λ (zs : List Literal). l ∈ zs) (sym (take-append-drop n xs)) h)

in_around : (xs : List Literal) (i : ℕ) (x l : Literal) → slice_get xs i ≡ Some x → l ∈ xs
    → (l ≡ x) ⊎ ((l ∈ take i xs) ⊎ (l ∈ drop (i + 1) xs))
in_around xs i x l at h =
    elim (in_append (take i xs) (x ∷ drop (i + 1) xs) l (subst (λ (zs : List Literal). l ∈ zs) (sym (split_at xs i x at)) h)) [
      | inl k ↦ inr (inl k)
      | inr (inl e) ↦ inl e
      | inr (inr k) ↦ inr (inr k)
    ]

-- one walk to the end of `to`
pub merge_but : (a b to s t : List Literal) (i j k : ℕ) → k ≡ length to → s ≡ drop i a → t ≡ drop j b → IsMergeSoFar a b to i j k
    → IsMergeBut a b to s t
merge_but a b to s t i j k e es et u = record {
  from = λ l h. elim (u.from l (in_take_all to k l (omega arith) h)) [
    | inl q ↦ inl (take_within a i l q)
    | inr q ↦ inr (take_within b j l q)
  ];
  left = λ l h. elim (in_parts a i l h) [
    | inl q ↦ inl (take_within to k l (u.left l q))
    | inr q ↦ inr (subst (λ (zs : List Literal). l ∈ zs) (sym es) q)
  ];
  right = λ l h. elim (in_parts b j l h) [
    | inl q ↦ inl (take_within to k l (u.right l q))
    | inr q ↦ inr (subst (λ (zs : List Literal). l ∈ zs) (sym et) q)
  ];
}

pub resolved_at : (a b to s t u rest_a rest_b : List Literal) (i j k : ℕ) (x y : Literal) → i < length a → x ≡ get_or a i x
    → j < length b → y ≡ get_or b j y → y ≡ negated x
    → s ≡ drop (i + 1) a → t ≡ drop (j + 1) b → u ≡ drop k to → IsMergeSoFar a b to i j k
    → IsMergeBut s t u rest_a rest_b → IsResolvedBut a b to rest_a rest_b x
resolved_at a b to s t u rest_a rest_b i j k x y in_a at_a in_b at_b opposite es et eu so_far rests =
    let here_a : slice_get a i ≡ Some x = slice_get_read a (length a) i x refl in_a at_a in
    let here_b : slice_get b j ≡ Some y = slice_get_read b (length b) j y refl in_b at_b in
    record {
      in_a = got_in a i x here_a;
      in_b = subst (λ (z : Literal). z ∈ b) opposite (got_in b j y here_b);
      from = λ l h. elim (in_parts to k l h) [
        | inl p ↦ elim (so_far.from l p) [ inl q ↦ inl (take_within a i l q) | inr q ↦ inr (take_within b j l q) ]
        | inr p ↦ search (rules, drop_within)
      ];
      left = λ l h. elim (in_around a i x l here_a h) [
        | inl e ↦ inl (ap var_of e)
        | inr (inl p) ↦ inr (inl (take_within to k l (so_far.left l p)))
        | inr (inr p) ↦ inr (past l rest_a (rests.left l (subst (λ (zs : List Literal). l ∈ zs) (sym es) p)))
      ];
      right = λ l h. elim (in_around b j y l here_b h) [
        | inl e ↦ inl (ap var_of (e ∙ opposite))
        | inr (inl p) ↦ inr (inl (take_within to k l (so_far.right l p)))
        | inr (inr p) ↦ inr (past l rest_b (rests.right l (subst (λ (zs : List Literal). l ∈ zs) (sym et) p)))
      ];
    }
  where
    var_of : Literal → ℕ
    var_of z = z.var

    past : (l : Literal) (rest : List Literal) → (l ∈ u) ⊎ (l ∈ rest) → (l ∈ to) ⊎ (l ∈ rest)
    past l rest w = search (rules, drop_within)

-- the pivot among the literals that are left
pub resolved_after : (a b to s t : List Literal) (i j k : ℕ) (x : Literal) → k ≡ length to → s ≡ drop i a → t ≡ drop j b
    → IsMergeSoFar a b to i j k → (x ∈ s) × (negated x ∈ t) → IsResolvedBut a b to s t x
resolved_after a b to s t i j k x e es et so_far (in_s, in_t) =
    let rests = merge_but a b to s t i j k e es et so_far in record {
      in_a = drop_within a i x (subst (λ (zs : List Literal). x ∈ zs) es in_s);
      in_b = drop_within b j (negated x) (subst (λ (zs : List Literal). negated x ∈ zs) et in_t);
      from = rests.from;
      left = λ l h. inr (rests.left l h);
      right = λ l h. inr (rests.right l h);
    }

-- two literals of one variable
pub this_or_opposite : (l x : Literal) → l.var ≡ x.var → (l ≡ x) ⊎ (l ≡ negated x)
this_or_opposite l x e = grind (arith, common_steps)

-- the members of `to` are those of two lists, or of the pivot
pub resolved_whole : (a b to : List Literal) (one both : Members) (x y : Literal) → x ≡ negated y
    → ((l : Literal) → Has one l → l ∈ a) → (y ∈ b) × Has one (negated y)
    → ((l : Literal) → Has both l → Has one l ⊎ (l ∈ b)) → ((l : Literal) → l ∈ to → (l.var ≡ x.var) ⊎ Has both l)
    → IsResolvedBut a b to a b x
resolved_whole a b to one both x y is of_a (in_b, has) of_b each =
    let in_a : x ∈ a = subst (λ (z : Literal). z ∈ a) (sym is) (of_a (negated y) has) in
    let opposite : negated x ∈ b = subst (λ (z : Literal). z ∈ b) (sym (ap negation is ∙ negated_twice y)) in_b in
    record {
      in_a = in_a;
      in_b = opposite;
      from = search (rules, this_or_opposite);
      left = λ l h. inr (inr h);
      right = λ l h. inr (inr h);
    }
  where
    negation : Literal → Literal
    negation z = negated z

-- ---- facts of a step without the pivot, if a set without a clash has its literals and those that are left

module _ (rules : Rules) (side : Side) (blocks : List Block) (a b to rest_a rest_b : List Literal) (x : Literal)
    (is : IsResolvedBut a b to rest_a rest_b x) (apart : IsApart to x.var) (In May : Literal → Type 0)
    (clean : (l : Literal) → In l → In (negated l) → ⊥) (of_to : (l : Literal) → l ∈ to → In l)
    (of_a : (l : Literal) → l ∈ rest_a → (l.var ≡ x.var) ⊎ In l) (of_b : (l : Literal) → l ∈ rest_b → (l.var ≡ x.var) ⊎ In l)
    (only : (l : Literal) → In l → (l ∈ to) ⊎ May l) where
  left_over : (l : Literal) → l ∈ a → (l.var ≡ x.var → ⊥) → In l
  left_over l h ne = grind (arith, common_steps)

  right_over : (l : Literal) → l ∈ b → (l.var ≡ x.var → ⊥) → In l
  right_over l h ne = grind (arith, common_steps)

  no_other : (v : ℕ) → (v ≡ x.var → ⊥) → Clashes a b v → ⊥
  no_other v ne w = grind (arith, common_steps)

  each : (l : Literal) → l ∈ resolvent a b x.var → (l ∈ to) ⊎ May l
  each l h = let w = from_without x.var (a ++ b) l h in elim (in_append a b l w.0) [
    | inl k ↦ only l (left_over l k w.1)
    | inr k ↦ only l (right_over l k w.1)
  ]

  pub accounted_follows : AllowsPivot rules side blocks x.var → Accounts side blocks a b to x.var
      → AllHold (resolvent_conditions rules side blocks a b to)
  accounted_follows allowed accounts = at_pivot rules side blocks a b to x.var None
      (grind (arith, common_steps, clash_here, no_other)) (
        allowed,
        (
          (λ l h. in_without x.var (a ++ b) l
              (elim (is.from l h) [ inl k ↦ append_left a b l k | inr k ↦ append_right a b l k ]) (apart l h)),
          (accounts, tt),
        ),
      )

  pub left_follows : AllowsPivot rules side blocks x.var
      → (((l : Literal) → l ∈ resolvent a b x.var → (l ∈ to) ⊎ May l) → (l : Literal) → May l
      → IsReducible side blocks (resolvent a b x.var) l)
      → AllHold (resolvent_conditions rules side blocks a b to)
  left_follows allowed may =
      accounted_follows allowed (λ l h. elim (each l h) [ inl k ↦ inl k | inr m ↦ inr (inl (may each l m)) ])

-- ---- no clashing pair

-- one literal more, whose negation is not among those so far
pub clean_with : (xs : List Literal) (i : ℕ) (x : Literal) → i < length xs → x ≡ get_or xs i x → (negated x ∈ take i xs → ⊥)
    → IsClean (take i xs) → IsClean (take (i + 1) xs)
clean_with xs i x less e out clean l h k = elim (in_take_more xs i x l less e h) [
  | inl p ↦ elim (in_take_more xs i x (negated l) less e k) [
    | inl q ↦ clean l p q
    | inr g ↦ out (subst (λ (z : Literal). z ∈ take i xs) (sym (negated_twice l) ∙ ap negation g) p)
  ]
  | inr f ↦ elim (in_take_more xs i x (negated l) less e k) [
    | inl q ↦ out (subst (λ (z : Literal). z ∈ take i xs) (ap negation f) q)
    | inr g ↦ negated_differs l (g ∙ sym f)
  ]
]
  where
    negation : Literal → Literal
    negation z = negated z

pub clean_all : (xs : List Literal) (i : ℕ) → length xs ≤ i → IsClean (take i xs) → IsClean xs
clean_all xs i long clean = subst IsClean (take_all i xs long) clean

-- ---- facts of any step that follows from two antecedents

within_resolvent : (rules : Rules) (side : Side) (blocks : List Block) (a b to : List Literal)
    → AllHold (resolvent_conditions rules side blocks a b to) → (x : ℕ) × IsOnlyClash a b x × (to ⊆ resolvent a b x)
within_resolvent rules side blocks a b to all =
    (all.0.0, record { clashes = all.0.1; only = λ v c. all.1.0 v all.0.0 c all.0.1 }, all.1.1.1.0 all.0.0 all.0.1)

followed_clean : (rules : Rules) (side : Side) (blocks : List Block) (a b to : List Literal)
    → AllHold (resolvent_conditions rules side blocks a b to) → IsClean a → IsClean b → IsClean to
followed_clean rules side blocks a b to all clean_a clean_b =
    let w = within_resolvent rules side blocks a b to all in
    clean_within (resolvent a b w.0) to (resolvent_clean a b w.0 clean_a clean_b w.1) w.2

followed_bound : (rules : Rules) (side : Side) (blocks : List Block) (a b to : List Literal)
    → AllHold (resolvent_conditions rules side blocks a b to) → AreBound blocks a → AreBound blocks b → AreBound blocks to
followed_bound rules side blocks a b to all bound_a bound_b =
    let w = within_resolvent rules side blocks a b to all in resolvent_bound blocks a b to w.0 bound_a bound_b w.2

-- a step that follows from two antecedents that are clean and bound is so itself
pub followed_accepted : (rules : Rules) (side : Side) (blocks : List Block) (a b to : List Literal)
    → AllHold (resolvent_conditions rules side blocks a b to) → IsFit blocks a → IsFit blocks b
    → IsAcceptedStep (resolvent_conditions rules side blocks a b to) blocks to
followed_accepted rules side blocks a b to all fit_a fit_b = search (rules, followed_clean, followed_bound)

-- the same by the answer of a test
pub followed_by : {E : Type 0} (rules : Rules) (side : Side) (blocks : List Block) (a b to : List Literal) (v : ℕ) (r : Result Bool E)
    → IfOk r (λ t. IsTrue t → (q : Rules) → AllowsPivot q side blocks v → AllHold (resolvent_conditions q side blocks a b to))
    → AllowsPivot rules side blocks v → IsFit blocks a → IsFit blocks b
    → IfOk r (IsAcceptedBy (resolvent_conditions rules side blocks a b to) blocks to)
followed_by rules side blocks a b to v (Ok t) told allowed fit_a fit_b = search (rules, followed_accepted)
followed_by rules side blocks a b to v (Err e) told allowed fit_a fit_b = tt

-- a step that leaves nothing follows
none_in : (xs : List Literal) → length xs ≡ 0 → (l : Literal) → l ∈ xs → ⊥
none_in xs e l h = grind (arith, common_steps)

pub exact_follows : (rules : Rules) (side : Side) (blocks : List Block) (a b to rest_a rest_b : List Literal) (x : Literal)
    → IsResolvedBut a b to rest_a rest_b x → AllowsPivot rules side blocks x.var → length rest_a ≡ 0 → length rest_b ≡ 0 → IsClean to
    → IsApart to x.var → AllHold (resolvent_conditions rules side blocks a b to)
exact_follows rules side blocks a b to rest_a rest_b x is allowed none_a none_b clean apart =
    left_follows rules side blocks a b to rest_a rest_b x is apart (λ l. l ∈ to) (λ _. ⊥) clean (λ l h. h)
    (λ l h. absurd (none_in rest_a none_a l h)) (λ l h. absurd (none_in rest_b none_b l h)) (λ l h. inl h) allowed
    (λ all l none. absurd none)

-- ---- a set of literals that grows

pub put_one : (s t : Members) (x : Literal) (May : Literal → Type 0) (Put : Type 0)
    → ((l : Literal) → Has t l ↔ (Has s l ⊎ ((l ≡ x) × Put))) → (Has s (negated x) → ⊥) → May x → IsPutBy s t May
put_one s t x May Put is out may = record {
  kept = λ l h. (is l).1 (inl h);
  only = λ l h. elim ((is l).0 h) [ inl k ↦ inl k | inr e ↦ inr (subst May (sym e.0) may) ];
  clean = λ none l h k. elim ((is l).0 h) [
    | inl p ↦ elim ((is (negated l)).0 k) [
      | inl q ↦ none l p q
      | inr f ↦ out (subst (Has s) (sym (negated_twice l) ∙ ap negation f.0) p)
    ]
    | inr e ↦ elim ((is (negated l)).0 k) [
      | inl q ↦ out (subst (Has s) (ap negation e.0) q)
      | inr f ↦ negated_differs l (f.0 ∙ sym e.0)
    ]
  ];
}
  where
    negation : Literal → Literal
    negation z = negated z

pub put_then : (r s t : Members) (May : Literal → Type 0) → IsPutBy r s May → IsPutBy s t May → IsPutBy r t May
put_then r s t May a b = record {
  kept = λ l h. b.kept l (a.kept l h);
  only = λ l h. elim (b.only l h) [ inl k ↦ a.only l k | inr m ↦ inr m ];
  clean = λ apart. b.clean (a.clean apart);
}
