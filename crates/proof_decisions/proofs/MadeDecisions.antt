-- The decisions that are made are those of the proof.
use Rattle.trace_check.proofs.Cited.{◌≡◌, ◌<◌, ◌≤◌, ◌+◌, ◌⊎◌, ◌↔◌, ◌∙◌, ◌++◌, ℕ, List, [], ◌∷◌, inl, inr, refl, sym, ap, subst, arith, suc, Option, Some, None}
use Rattle.trace_check.proofs.Cited.{Literal, ◌∈◌, ◌⊆◌, Qbf, Side, Clauses, Cubes, Clashes, IsClean, bound_each, pairs, length, take, get_or, IsBound, AreBound}
use Rattle.trace_check.proofs.Cited.{Inference, IsAt, Rules, Derives, IsInCore, lits_of, take_more, resolvent, AllHold, antecedent_conditions, next}
use Rattle.trace_check.proofs.Cited.{append_left, append_right}
use Rattle.qbf_core.specs.Blocks.{variables}
use Rattle.qbf_core.specs.Qbf.{IsWellFormed}
use Rattle.qbf_core.specs.Rules.{IsReducible, reduced_quantifier}
use Rattle.qbf_core.specs.declared.quantifier.Quantifier.{Quantifier}
use Rattle.qbf_core.proofs.Bound.{apart_of, Distinct}
use Rattle.qbf_core.proofs.Inferences.{in_without, resolvent_clean}
use Rattle.std.proofs.Common.{append-nil, map}
use Rattle.std.proofs.lemmas.List.{length_push}
use Rattle.qbf_strategy.specs.Decisions.{Decision, decision_by, decisions_by, wanted}
use Rattle.core_walk.proofs.NamedSteps.{need_of}
use Rattle.qrp_rules.specs.Conditions.{IsReducibleInParents}
use Rattle.qrp_rules.specs.declared.blocks.Reducible.{Reducible}
use Rattle.written_steps.specs.Seen.{Members}
use Rattle.qrp_rules.specs.Walks.{IsThePivot, TakesOut}
use Rattle.proof_decisions.specs.ProofDecisions.{IsFullyReduced, CoversParent, CoversBoth, CoversInitial, Covers, IsDecisionAt, AreDecisionsOf}
use Rattle.proof_decisions.specs.ProofDecisions.{AreAllThatSet, unless_idle, without_idle}
use Rattle.proof_decisions.specs.Removing.{AddsDecision, AddsUnlessIdle, ComesFrom, HasJust, IsInitialOf, IsLeft, IsPivotOf, MayLeave, Notes, Removes, RemovesAll}
use Rattle.proof_decisions.specs.Sizes.{initial_literals, literals_before, longest}
use Rattle.proof_decisions.specs.declared.origins.Origin.{Origin}
use Rattle.proof_decisions.specs.declared.origins.Origin.TheVariants.{Initial, One, Two}
use Rattle.proof_decisions.proofs.FullyReduced.{fewer, needed_or_reducible, sub_clean}
use Rattle.proof_decisions.proofs.RemovedLiterals.{notes_kept}
use Rattle.proof_decisions.proofs.Winning.{step_facts}

-- the literals are bound and clean
record IsGood (f : Qbf) (lits : List Literal) : Type 0 where
  pub bound : (l : Literal) → l ∈ lits → IsBound f.blocks l.var
  pub clean : IsClean lits

only_pivot : (pivot : Option ℕ) (x v : ℕ) → IsThePivot pivot v → IsThePivot pivot x → v ≡ x
only_pivot None x v h k = absurd h
only_pivot (Some y) x v h k = h ∙ sym k

pivot_is : (a b : List Literal) (x : ℕ) (pivot : Option ℕ) → Clashes a b x → ((u v : ℕ) → Clashes a b u → Clashes a b v → u ≡ v)
    → IsPivotOf a b pivot → IsThePivot pivot x
pivot_is a b x None clash one found = absurd (found x clash)
pivot_is a b x (Some y) clash one found = one x y clash found

is_longest : (lists : List (List Literal)) (ls : List Literal) → ls ∈ lists → length ls ≤ longest lists
is_longest [] ls h = absurd h
is_longest (x ∷ lists) ls (inl e) = let count = ap (λ (l : List Literal). length l) e in omega (arith, count)
is_longest (x ∷ lists) ls (inr h) = let rest = is_longest lists ls h in omega (arith, rest)

-- ---- the literals of one step

module _ (side : Side) (f : Qbf) (apart : Distinct (variables (pairs f.blocks))) (own : Reducible) (lits kept : List Literal) (good : IsGood f lits)
    (means : (l : Literal) → TakesOut own l.var ↔ IsReducible side f.blocks lits l) (left : IsLeft own lits kept) where
  is_reduced : IsFullyReduced side f.blocks lits kept
  is_reduced = record {
    within = left.within;
    needed = λ k h. elim (needed_or_reducible side f apart lits k good.bound (left.within k h)) [
      | inl needed ↦ needed
      | inr red ↦ absurd (left.stays k h ((means k).1 red))
    ];
    each = λ l h. elim (left.each l h) [ inl k ↦ inl k | inr out ↦ inr ((means l).0 out) ];
  }

  -- what is not kept is reducible
  not_kept : (l : Literal) → (l ∈ lits) ⊎ IsReducible side f.blocks lits l → (l ∈ kept → ⊥) → IsReducible side f.blocks lits l
  not_kept l (inl h) out = elim (left.each l h) [ inl k ↦ absurd (out k) | inr takes ↦ (means l).0 takes ]
  not_kept l (inr red) out = red

  module _ (s t : Members) (removed : List Literal) (notes : Notes kept [] s) (by : Rules) (before : List Inference) where
    -- what is removed may be decided, and what the step comes from is covered
    record IsMade (ants : List ℕ) : Type 0 where
      pub reducible : (l : Literal) → l ∈ removed → IsReducible side f.blocks lits l
      pub clean : IsClean removed
      pub covers : Covers side f before ants lits kept removed
      pub few : length removed ≤ literals_before side f before ants lits

    -- a list each of whose literals is in the step or reducible there
    module _ (from : List Literal) (May : Literal → Type 0) (rem : Removes s t [] removed from May) (clean : IsClean from)
        (each : (l : Literal) → l ∈ from → (l ∈ lits) ⊎ IsReducible side f.blocks lits l) where
      list_reducible : (l : Literal) → l ∈ removed → IsReducible side f.blocks lits l
      list_reducible l h = elim (rem.within kept notes l h) [ inl none ↦ absurd none | inr w ↦ not_kept l (each l w.0) w.2 ]

      list_clean : IsClean removed
      list_clean = sub_clean from removed (λ l h. elim (rem.within kept notes l h) [ inl none ↦ absurd none | inr w ↦ w.0 ]) clean

    initial_made : (from : List Literal) → AllHold (antecedent_conditions by side f before [] lits) → IsInitialOf side f lits from
        → Removes s t [] removed from (λ l. ⊥) → IsMade []
    initial_made from rows initial rem = record {
      reducible = list_reducible from (λ l. ⊥) rem (of_side side initial).0 (of_side side initial).1;
      clean = list_clean from (λ l. ⊥) rem (of_side side initial).0 (of_side side initial).1;
      covers = covers_side side initial;
      few = few_side side initial;
    }
      where
        of_side : (side : Side) → IsInitialOf side f lits from
            → IsClean from × ((l : Literal) → l ∈ from → (l ∈ lits) ⊎ IsReducible side f.blocks lits l)
        of_side Clauses (h, clean, reduct) =
            (clean, λ l k. elim (reduct.each l k) [ inl is ↦ inl is | inr red ↦ inr (fewer Clauses f apart from lits l reduct.within red) ])
        of_side Cubes same = (subst IsClean (sym same) good.clean, λ l k. inl (subst (λ ls. l ∈ ls) same k))

        covered : (l : Literal) → l ∈ from → (l ∈ kept) ⊎ (l ∈ removed)
        covered l k = elim (rem.covers kept notes l k) [ inl none ↦ absurd none | inr there ↦ there ]

        covers_side : (side : Side) → IsInitialOf side f lits from → CoversInitial side f lits kept removed
        covers_side Clauses initial = (from, initial.0, covered)
        covers_side Cubes same = λ l h. covered l (subst (λ ls. l ∈ ls) (sym same) h)

        few_side : (side : Side) → IsInitialOf side f lits from → length removed ≤ initial_literals side f lits
        few_side Clauses initial =
            let few = rem.few in let long = is_longest f.clauses from initial.0 in omega (arith, few, long)
        few_side Cubes same = let few = rem.few in let count = ap (λ (ls : List Literal). length ls) same in omega (arith, few, count)

    -- the literals of an antecedent are covered, if those that are left aside may be
    parent_covered : (u v : Members) (old new newer parent : List Literal) (pivot : Option ℕ) (but : Literal → Type 0) → Notes kept old u
        → Removes u v old new parent (MayLeave side f.blocks pivot parent) → new ⊆ newer → ((l : Literal) → IsThePivot pivot l.var → but l)
        → CoversParent side f.blocks parent kept newer but
    parent_covered u v old new newer parent pivot but noted rem more is l h = elim (rem.covers kept noted l h) [
      | inl (inl same) ↦ inl (is l same)
      | inl (inr red) ↦ inr (inr (inr red))
      | inr (inl k) ↦ inr (inl k)
      | inr (inr r) ↦ inr (inr (inl (more l r)))
    ]

    reduct_made : (n : ℕ) (from : List Literal) → from ≡ lits_of before n → AllHold (antecedent_conditions by side f before (n ∷ []) lits)
        → IsGood f (lits_of before n) → Removes s t [] removed from (MayLeave side f.blocks None from) → IsMade (n ∷ [])
    reduct_made n from same (within, (each, _)) of_parent rem =
        let parent : List Literal = lits_of before n in
        let of_same = subst (λ ls. Removes s t [] removed ls (MayLeave side f.blocks None ls)) same rem in
        let one : (l : Literal) → l ∈ parent → (l ∈ lits) ⊎ IsReducible side f.blocks lits l =
        λ l k. elim (each l k) [ inl is ↦ inl is | inr red ↦ inr (fewer side f apart parent lits l within red) ] in
        record {
          reducible = list_reducible parent (MayLeave side f.blocks None parent) of_same of_parent.clean one;
          clean = list_clean parent (MayLeave side f.blocks None parent) of_same of_parent.clean one;
          covers = parent_covered s t [] removed removed parent None (λ l. ⊥) notes of_same (λ l h. h) (λ l none. none);
          few = let few = of_same.few in omega (arith, few);
        }

    module _ (a b : List Literal) (x : ℕ) (clash : Clashes a b x) (one : (u v : ℕ) → Clashes a b u → Clashes a b v → u ≡ v)
        (within : lits ⊆ resolvent a b x)
        (each : (l : Literal) → l ∈ resolvent a b x
        → (l ∈ lits) ⊎ (IsReducible side f.blocks (resolvent a b x) l ⊎ IsReducibleInParents side f.blocks a b l))
        (of_a : IsGood f a) (of_b : IsGood f b) (pivot : Option ℕ) (is : IsThePivot pivot x) (u : Members) (first : List Literal)
        (rem_a : Removes s u [] first a (MayLeave side f.blocks pivot a)) (rem_b : Removes u t first removed b (MayLeave side f.blocks pivot b)) where
      -- what is removed is in the resolvent, and in a parent where it is not reducible
      removed_in : (l : Literal) → l ∈ removed
          → (l ∈ resolvent a b x) × (l ∈ kept → ⊥) × (IsReducibleInParents side f.blocks a b l → ⊥)
      removed_in l h = elim (rem_b.within kept (rem_a.notes kept notes) l h) [
        | inl k ↦ elim (rem_a.within kept notes l k) [
          | inl none ↦ absurd none
          | inr w ↦ (
            in_without x (a ++ b) l (append_left a b l w.0) (λ e. w.1 (inl (subst (λ v. IsThePivot pivot v) (sym e) is))),
            w.2,
            λ red. w.1 (inr (red.0 w.0)),
          )
        ]
        | inr w ↦ (
          in_without x (a ++ b) l (append_right a b l w.0) (λ e. w.1 (inl (subst (λ v. IsThePivot pivot v) (sym e) is))),
          w.2,
          λ red. w.1 (inr (red.1 w.0)),
        )
      ]

      both_reducible : (l : Literal) → l ∈ removed → IsReducible side f.blocks lits l
      both_reducible l h =
          let w = removed_in l h in
          not_kept l (elim (each l w.0) [
            | inl there ↦ inl there
            | inr (inl red) ↦ inr (fewer side f apart (resolvent a b x) lits l within red)
            | inr (inr parents) ↦ absurd (w.2 parents)
          ]) w.1

      both_clean : IsClean removed
      both_clean = sub_clean (resolvent a b x) removed (λ l h. (removed_in l h).0)
          (resolvent_clean a b x of_a.clean of_b.clean (record { clashes = clash; only = λ v c. one v x c clash }))

      both_covered : CoversBoth side f.blocks a b kept removed
      both_covered y c =
          let same : y ≡ x = one y x c clash in
          let other : (l : Literal) → IsThePivot pivot l.var → l.var ≡ y = λ l p. only_pivot pivot x l.var p is ∙ sym same in (
            parent_covered s u [] first removed a pivot (λ l. l.var ≡ y) notes rem_a rem_b.grows other,
            parent_covered u t first removed removed b pivot (λ l. l.var ≡ y) (rem_a.notes kept notes) rem_b (λ l h. h) other,
          )

    -- the literals of two antecedents are removed
    abbrev RemovesBoth : Option ℕ → List Literal → List Literal → Type 0
    RemovesBoth pivot a b = (u : Members) × (first : List Literal) × Removes s u [] first a (MayLeave side f.blocks pivot a)
        × Removes u t first removed b (MayLeave side f.blocks pivot b)

    resolvent_made : (m n : ℕ) (pivot : Option ℕ) → IsPivotOf (lits_of before m) (lits_of before n) pivot
        → AllHold (antecedent_conditions by side f before (m ∷ n ∷ []) lits) → IsGood f (lits_of before m) → IsGood f (lits_of before n)
        → RemovesBoth pivot (lits_of before m) (lits_of before n) → IsMade (m ∷ n ∷ [])
    resolvent_made m n pivot found ((x, clash), (one, (_, (within, (each, _))))) of_m of_n (u, first, rem_a, rem_b) =
        let a : List Literal = lits_of before m in
        let b : List Literal = lits_of before n in
        let is : IsThePivot pivot x = pivot_is a b x pivot clash one found in
        record {
          reducible = both_reducible a b x clash one (within x clash) (each x clash) of_m of_n pivot is u first rem_a rem_b;
          clean = both_clean a b x clash one (within x clash) (each x clash) of_m of_n pivot is u first rem_a rem_b;
          covers = both_covered a b x clash one (within x clash) (each x clash) of_m of_n pivot is u first rem_a rem_b;
          few = let some = rem_a.few in let others = rem_b.few in omega (arith, some, others);
        }

    made : (ants : List ℕ) (origin : Origin) → AllHold (antecedent_conditions by side f before ants lits)
        → ((n : ℕ) → n ∈ ants → IsGood f (lits_of before n)) → ComesFrom side f before ants lits origin
        → RemovesAll side f.blocks s t [] removed origin → IsMade ants
    made ants (Initial from) rows parents (none, initial) rem =
        subst IsMade (sym none)
        (initial_made from.now (subst (λ ns. AllHold (antecedent_conditions by side f before ns lits)) none rows) initial rem)
    made ants (One from) rows parents (n, are, same) rem =
        subst IsMade (sym are)
        (reduct_made n from.now same (subst (λ ns. AllHold (antecedent_conditions by side f before ns lits)) are rows)
        (parents n (subst (λ ns. n ∈ ns) (sym are) (inl refl))) rem)
    made ants (Two a b pivot) rows parents (m, n, are, is_a, is_b, found) rem =
        subst IsMade (sym are)
        (resolvent_made m n pivot
        (subst (λ ls. IsPivotOf ls (lits_of before n) pivot) is_a (subst (λ ls. IsPivotOf a.now ls pivot) is_b found))
        (subst (λ ns. AllHold (antecedent_conditions by side f before ns lits)) are rows)
        (parents m (subst (λ ns. m ∈ ns) (sym are) (inl refl))) (parents n (subst (λ ns. n ∈ ns) (sym are) (inr (inl refl))))
        (subst (λ ls. RemovesBoth pivot ls (lits_of before n)) is_a (subst (λ ls. RemovesBoth pivot a.now ls) is_b rem)))

-- ---- the decision of a step

module _ (side : Side) (f : Qbf) (formed : IsWellFormed f) (steps : List Inference) (derived : (by : Rules) × Derives by side f steps) (i : ℕ)
    (needed : IsInCore steps i) where
  parents_good : (step : Inference) → IsAt steps i step → (n : ℕ) → n ∈ step.ants → IsGood f (lits_of (take i steps) n)
  parents_good step here n h =
      let facts = step_facts derived.0 side f steps derived.1 i step needed here in
      let p = need_of steps i step n here h (facts.2 n h) in
      let below = step_facts derived.0 side f steps derived.1 p.0 p.1.below (next needed p.1) p.1.at_below in
      record {
        bound = bound_each f.blocks (lits_of (take i steps) n) (subst (λ ls. AreBound f.blocks ls) p.3 below.1);
        clean = subst (λ ls. IsClean ls) p.3 below.0;
      }

  pub decision_made : (own : Reducible) (lits kept removed : List Literal) (s t : Members) (origin : Origin)
      → ((step : Inference) → IsAt steps i step → lits ≡ step.lits)
      → ((l : Literal) → TakesOut own l.var ↔ IsReducible side f.blocks lits l) → IsLeft own lits kept → HasJust kept s
      → ((step : Inference) → IsAt steps i step → ComesFrom side f (take i steps) step.ants step.lits origin)
      → RemovesAll side f.blocks s t [] removed origin
      → IsDecisionAt side f steps i (decision_by (reduced_quantifier side) kept removed)
  decision_made own lits kept removed s t origin same means left just comes rem =
      let w = derived.1.each i needed in
      let e : lits ≡ w.step.lits = same w.step w.here in
      let facts = step_facts derived.0 side f steps derived.1 i w.step needed w.here in
      let good : IsGood f w.step.lits = record { bound = bound_each f.blocks w.step.lits facts.1; clean = facts.0 } in
      let here_left : IsLeft own w.step.lits kept = subst (λ ls. IsLeft own ls kept) e left in
      let here_means : (l : Literal) → TakesOut own l.var ↔ IsReducible side f.blocks w.step.lits l =
      subst (λ ls. (l : Literal) → TakesOut own l.var ↔ IsReducible side f.blocks ls l) e means in
      let apart : Distinct (variables (pairs f.blocks)) = apart_of (variables (pairs f.blocks)) formed.prefix.distinct in
      let is = made side f apart own w.step.lits kept good here_means here_left s t removed (notes_kept kept s just) derived.0 (take i steps)
      w.step.ants origin facts.3 (parents_good w.step w.here) (comes w.step w.here) rem in
      record {
        step = w.step;
        here = w.here;
        decision = record {
          kept = kept;
          removed = removed;
          reduced = is_reduced side f apart own w.step.lits kept good here_means here_left;
          reducible = is.reducible;
          clean = is.clean;
          covers = is.covers;
          few_kept = here_left.few;
          few_removed = is.few;
          when = refl;
          sets = refl;
        };
      }

-- ---- the decisions of all steps

by_more : (mine : Quantifier) (ks rs : List (List Literal)) (k r : List Literal) → length ks ≡ length rs
    → decisions_by mine (ks ++ k ∷ []) (rs ++ r ∷ []) ≡ decisions_by mine ks rs ++ decision_by mine k r ∷ []
by_more mine [] [] k r e = refl
by_more mine [] (y ∷ rs) k r e = absurd (let h : 0 ≡ suc (length rs) = e in omega (arith, h))
by_more mine (x ∷ ks) [] k r e = absurd (let h : suc (length ks) ≡ 0 = e in omega (arith, h))
by_more mine (x ∷ ks) (y ∷ rs) k r e =
    let same : length ks ≡ length rs = (let h : suc (length ks) ≡ suc (length rs) = e in omega (arith, h)) in
    ap (λ (ds : List Decision). decision_by mine x y ∷ ds) (by_more mine ks rs k r same)

module _ (side : Side) (f : Qbf) (steps : List Inference) where
  are_more : (core : List ℕ) (ds : List Decision) (i : ℕ) (d : Decision) → AreDecisionsOf side f steps core ds → IsDecisionAt side f steps i d
      → AreDecisionsOf side f steps (core ++ i ∷ []) (ds ++ d ∷ [])
  are_more [] [] i d are one = (one, tt)
  are_more [] (e ∷ ds) i d are one = absurd are
  are_more (j ∷ core) [] i d are one = absurd are
  are_more (j ∷ core) (e ∷ ds) i d are one = (are.0, are_more core ds i d are.1 one)

  idle_more : (ds : List Decision) (d : Decision) → without_idle (ds ++ d ∷ []) ≡ without_idle ds ++ unless_idle d d.sets []
  idle_more [] d = refl
  idle_more (e ∷ ds) d = by e.sets (idle_more ds d)
    where
      by : (ls : List Literal) → without_idle (ds ++ d ∷ []) ≡ without_idle ds ++ unless_idle d d.sets []
          → unless_idle e ls (without_idle (ds ++ d ∷ [])) ≡ unless_idle e ls (without_idle ds) ++ unless_idle d d.sets []
      by [] rest = rest
      by (l ∷ ls) rest = ap (λ (x : List Decision). e ∷ x) rest

  -- the lists of what is kept and removed, after one step more
  IsMore : (ks rs : List (List Literal)) (keeps removes : List Literal) (new_ks new_rs : List (List Literal)) → Type 0
  IsMore ks rs keeps removes new_ks new_rs = (length new_ks ≡ length new_rs)
      × (decisions_by (reduced_quantifier side) new_ks new_rs
      ≡ decisions_by (reduced_quantifier side) ks rs
      ++ unless_idle (decision_by (reduced_quantifier side) keeps removes) (map (wanted (reduced_quantifier side)) removes) [])

  added : (ks rs : List (List Literal)) (keeps removes : List Literal) (new_ks new_rs : List (List Literal)) → length ks ≡ length rs
      → AddsUnlessIdle ks rs keeps removes new_ks new_rs → IsMore ks rs keeps removes new_ks new_rs
  unfolding IsMore
  added ks rs keeps [] new_ks new_rs same (kept_is, removed_is) =
      let q = reduced_quantifier side in (
        ap (λ (xs : List (List Literal)). length xs) kept_is ∙ (same ∙ sym (ap (λ (xs : List (List Literal)). length xs) removed_is)),
        ap (λ (xs : List (List Literal)). decisions_by q xs new_rs) kept_is
            ∙ (ap (λ (xs : List (List Literal)). decisions_by q ks xs) removed_is ∙ sym (append-nil (decisions_by q ks rs))),
      )
  added ks rs keeps (l ∷ removes) new_ks new_rs same (kept_is, removed_is) =
      let q = reduced_quantifier side in (
        long_same new_ks new_rs ks rs keeps (l ∷ removes) kept_is removed_is same,
        ap (λ (xs : List (List Literal)). decisions_by q xs new_rs) kept_is
            ∙ (ap (λ (xs : List (List Literal)). decisions_by q (ks ++ keeps ∷ []) xs) removed_is ∙ by_more q ks rs keeps (l ∷ removes) same),
      )
    where
      long_same : (new_ks new_rs ks rs : List (List Literal)) (k r : List Literal) → new_ks ≡ ks ++ k ∷ [] → new_rs ≡ rs ++ r ∷ []
          → length ks ≡ length rs → length new_ks ≡ length new_rs
      long_same new_ks new_rs ks rs k r a b e =
          let count : List (List Literal) → ℕ = λ xs. length xs in
          let one : length new_ks ≡ length ks + 1 = ap count a ∙ length_push ks k in
          let two : length new_rs ≡ length rs + 1 = ap count b ∙ length_push rs r in omega (arith, one, two, e)

  pub decisions_more : (core : List ℕ) (n i : ℕ) (ks rs new_ks new_rs : List (List Literal)) → n < length core → i ≡ get_or core n i
      → length ks ≡ length rs → AreAllThatSet side f steps (take n core) (decisions_by (reduced_quantifier side) ks rs)
      → AddsDecision side f steps i ks rs new_ks new_rs
      → (length new_ks ≡ length new_rs) × AreAllThatSet side f steps (take (n + 1) core) (decisions_by (reduced_quantifier side) new_ks new_rs)
  unfolding IsMore
  decisions_more core n i ks rs new_ks new_rs less is same (ds, are, set) adds =
      let q = reduced_quantifier side in
      let d : Decision = decision_by q adds.keeps adds.removes in
      let longer : take (n + 1) core ≡ take n core ++ i ∷ [] = take_more core n i less ∙ ap (λ (j : ℕ). take n core ++ j ∷ []) (sym is) in
      let more = added ks rs adds.keeps adds.removes new_ks new_rs same adds.adds in (
        more.0,
        (
          ds ++ d ∷ [],
          subst (λ c. AreDecisionsOf side f steps c (ds ++ d ∷ [])) (sym longer) (are_more (take n core) ds i d are adds.decision),
          more.1 ∙ (ap (λ (xs : List Decision). xs ++ unless_idle d d.sets []) set ∙ sym (idle_more ds d)),
        ),
      )

  pub decisions_none : AreAllThatSet side f steps [] (decisions_by (reduced_quantifier side) [] [])
  decisions_none = ([], tt, refl)
