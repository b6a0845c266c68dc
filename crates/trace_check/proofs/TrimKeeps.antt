-- Trimming keeps a proof.
use Rattle.trace_check.proofs.Cited.{common_steps, rules, ◌≡◌, ℕ, zero, suc, ◌<◌, List, [], ◌∷◌, inl, inr, refl, sym, ap, ◌∙◌, subst}
use Rattle.trace_check.proofs.Cited.{length, take, Some, arith, slice_get, slice_get_cases, Literal, ◌∈◌, Qbf, Side, Inference}
use Rattle.trace_check.proofs.Cited.{IsAt, Rules, IsInCore, IsGoal, Needs, goal, next, ListsCore, StepFollows, IsNumberOf}
use Rattle.trace_check.proofs.Cited.{antecedent_conditions, lits_of, step_conditions, AllHold, reduct_conditions, resolvent_conditions}
use Rattle.trace_check.proofs.Cited.{Derives, HasOwnNumbers, own_numbers, steps_at, side_of, in_take, take_in}
use Rattle.trace_check.specs.Laws.{TrimmingKeeps}
use Rattle.core_walk.proofs.NamedSteps.{step_named, need_of}
use Rattle.core_walk.proofs.Marking.{core_within}

-- the k-th of the steps at some places is the step at the k-th place
pub at_place : (steps : List Inference) (places : List ℕ) → ((k i : ℕ) → slice_get places k ≡ Some i → (s : Inference) × IsAt steps i s)
    → (k i : ℕ) (s : Inference) → slice_get places k ≡ Some i → IsAt steps i s → IsAt (steps_at steps places) k s
at_place steps [] inside k i s here at = cc
at_place steps (p ∷ places) inside zero i s here at = let w = inside 0 p refl in rw w.1 (cc (w.1, here, at))
at_place steps (p ∷ places) inside (suc k) i s here at = let w = inside 0 p refl in
    rw w.1 (at_place steps places (λ l j h. inside (suc l) j h) k i s here at)

pub place_of : (steps : List Inference) (places : List ℕ) → ((k i : ℕ) → slice_get places k ≡ Some i → (s : Inference) × IsAt steps i s)
    → (k : ℕ) (s : Inference) → IsAt (steps_at steps places) k s → (i : ℕ) × (slice_get places k ≡ Some i) × IsAt steps i s
place_of steps [] inside k s here = cc
place_of steps (p ∷ places) inside zero s here = let w = inside 0 p refl in
    let h = rw w.1 at here in (p, refl, w.1 ∙ h)
place_of steps (p ∷ places) inside (suc k) s here = let w = inside 0 p refl in
    let h = rw w.1 at here in place_of steps places (λ l j h. inside (suc l) j h) k s h

rows_same : (rules : Rules) (side : Side) (f : Qbf) (a b : List Inference) (ants : List ℕ) (lits : List Literal)
    → ((m : ℕ) → m ∈ ants → lits_of a m ≡ lits_of b m)
    → AllHold (antecedent_conditions rules side f a ants lits) → AllHold (antecedent_conditions rules side f b ants lits)
rows_same rules side f a b [] lits same rows = rows
rows_same rules side f a b (m ∷ []) lits same rows =
    subst (λ x. AllHold (reduct_conditions side f.blocks x lits)) (same m (inl refl)) rows
rows_same rules side f a b (m ∷ n ∷ more) lits same rows =
    subst (λ x. AllHold (resolvent_conditions rules side f.blocks x (lits_of b n) lits)) (same m (inl refl))
    (subst (λ y. AllHold (resolvent_conditions rules side f.blocks (lits_of a m) y lits)) (same n (inr (inl refl))) rows)

module _ (rules : Rules) (side : Side) (f : Qbf) (steps : List Inference) (core : List ℕ)
    (own : HasOwnNumbers steps) (lists : ListsCore steps core) (proves : Derives rules side f steps) where
  core_steps : List Inference
  core_steps = steps_at steps core

  inside : (k i : ℕ) → slice_get core k ≡ Some i → (s : Inference) × IsAt steps i s
  inside k i here = let w = proves.each i (lists.sound k i here) in (w.step, w.here)

  -- the positions in the core stand in the order of the steps that they name
  lower : (k l i j : ℕ) → slice_get core k ≡ Some i → slice_get core l ≡ Some j → i < j → k < l
  lower k l i j at_k at_l less = grind (arith, common_steps)

  step_kept : (k i : ℕ) (s : Inference) → slice_get core k ≡ Some i → IsAt steps i s → IsAt core_steps k s
  unfolding core_steps
  step_kept k i s here at = at_place steps core inside k i s here at

  from_kept : (k : ℕ) (s : Inference) → IsAt core_steps k s → (i : ℕ) × (slice_get core k ≡ Some i) × IsAt steps i s
  unfolding core_steps
  from_kept k s here = place_of steps core inside k s here

  goal_kept : (i k : ℕ) → IsGoal steps i → slice_get core k ≡ Some i → IsGoal core_steps k
  goal_kept i k is here = grind (arith, common_steps, step_kept, from_kept)

  needs_kept : (i j k l : ℕ) → slice_get core k ≡ Some i → slice_get core l ≡ Some j → Needs steps i j → Needs core_steps k l
  needs_kept i j k l at_k at_l needs = grind (arith, common_steps, lower, step_kept)

  core_kept : {i : ℕ} → IsInCore steps i → (k : ℕ) → slice_get core k ≡ Some i → IsInCore core_steps k
  core_kept (goal {i = i} is) k here = goal (goal_kept i k is here)
  core_kept (next {i = i} {j = j} above needs) k here =
      let w = lists.full i above in
      next (core_kept above w.0 w.1) (needs_kept i j w.0 k w.1 here needs)

  -- the antecedents of a step are those that they were
  named_kept : (k i : ℕ) (above : Inference) (m : ℕ) → slice_get core k ≡ Some i → IsAt steps i above → m ∈ above.ants
      → IsNumberOf (take i steps) m
      → IsNumberOf (take k core_steps) m × (lits_of (take i steps) m ≡ lits_of (take k core_steps) m)
  named_kept k i above m here at_above h has =
      let w = need_of steps i above m at_above h has in
      let l = lists.full w.0 (next (lists.sound k i here) w.1) in
      let was = w.1.below in
      let is : IsNumberOf (take k core_steps) m =
      (was, take_in core_steps k l.0 was (lower l.0 k w.0 i l.1 here w.1.before) (step_kept l.0 w.0 was l.1 w.1.at_below), w.2) in
      let v = step_named (take k core_steps) m is in
      let q = in_take core_steps k v.0 v.1 in
      let r = from_kept q.0 v.0 q.2 in
      let place : w.0 ≡ r.0 = own w.0 r.0 was v.0 w.1.at_below r.2 (w.2 ∙ sym v.2) in
      let there : IsAt steps r.0 was = subst (λ (x : ℕ). IsAt steps x was) place w.1.at_below in
      let same : was ≡ v.0 = cc (there, r.2) in
      (is, sym w.3 ∙ (let g : Inference → List Literal = λ x. x.lits in ap g same ∙ v.3))

  follows_kept : (k i : ℕ) → slice_get core k ≡ Some i → StepFollows rules side f core_steps k
  follows_kept k i here =
      let w = proves.each i (lists.sound k i here) in
      record {
        step = w.step;
        here = step_kept k i w.step here w.here;
        all = of_rows w.step w.here w.all;
      }
    where
      of_rows : (step : Inference) → IsAt steps i step → AllHold (step_conditions rules side f (take i steps) step)
          → AllHold (step_conditions rules side f (take k core_steps) step)
      of_rows step at (clean, (bound, (names, rows))) = (
        clean,
        (
          bound,
          (
            (λ m h. (named_kept k i step m here at h (names m h)).0),
            rows_same rules side f (take i steps) (take k core_steps) step.ants step.lits
                (λ m h. (named_kept k i step m here at h (names m h)).1) rows,
          ),
        ),
      )

  each_kept : (k : ℕ) → k < length core_steps → (i : ℕ) × (slice_get core k ≡ Some i)
  each_kept k less = elim (slice_get_cases core_steps k).1 [
    | inl (s, _, is, _) ↦ (let w = from_kept k s is in (w.0, w.1))
    | inr (past, _) ↦ absurd (omega arith)
  ]

  proves_kept : Derives rules side f core_steps
  proves_kept =
      let w = lists.full proves.position (goal proves.is_goal) in
      record {
        position = w.0;
        is_goal = goal_kept proves.position w.0 proves.is_goal w.1;
        each = λ k in_core. let p = each_kept k (core_within core_steps k in_core) in follows_kept k p.0 p.1;
      }

  all_kept : (k : ℕ) → k < length core_steps → IsInCore core_steps k
  all_kept k less = let p = each_kept k less in core_kept (lists.sound k p.0 p.1) k p.1

-- the steps at the places of the core derive the same, and all of them are needed
pub steps_keep : (rules : Rules) (side : Side) (f : Qbf) (steps : List Inference) (core : List ℕ) → HasOwnNumbers steps
    → ListsCore steps core → Derives rules side f steps
    → Derives rules side f (steps_at steps core) × ((k : ℕ) → k < length (steps_at steps core) → IsInCore (steps_at steps core) k)
unfolding core_steps
steps_keep rules side f steps core own lists proves = search (rules, proves_kept, all_kept)

pub trimming_keeps : TrimmingKeeps
trimming_keeps rules f d core distinct lists proof =
    let w = steps_keep rules (side_of d.result) f d.steps core (own_numbers d.steps distinct) lists proof.derives in
    (record { agree = proof.agree; derives = w.0 }, w.1)
