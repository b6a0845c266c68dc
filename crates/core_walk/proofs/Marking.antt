-- Marks, a turn of a loop at a time.
use Rattle.core_walk.proofs.Cited.{◌≡◌, ℕ, zero, suc, ◌+◌, ◌<◌, ◌≤◌, Bool, true, false, List, [], ◌∷◌, ◌++◌, ◌⊎◌, ◌↔◌, inl, inr, refl, sym}
use Rattle.core_walk.proofs.Cited.{Option, Some, None, ap, ◌∙◌, subst, length, arith, rules, slice_get_within, cases_eq, Inference, IsAt}
use Rattle.core_walk.proofs.Cited.{IsGoal, Needs, IsInCore, goal, next, IsMarked, in_push, push_in}
use Rattle.std.proofs.Common.{set, replicate, length-set}
use Rattle.std.proofs.lemmas.List.{length-replicate}
use Rattle.core_walk.specs.Earlier.{FindsEarlier}
use Rattle.core_walk.specs.Marks.{IsNamed, with_mark}
use Rattle.lists.proofs.PushedItems.{written_here, written_elsewhere}

pub marked_set : (marks : List Bool) (i : ℕ) → i < length marks → (j : ℕ) → IsMarked (set marks i true) j ↔ (IsMarked marks j ⊎ (j ≡ i))
marked_set marks i less j = search (rules, cases_eq, set, written_here, written_elsewhere)

-- the marked positions are those that were, and those that are named before i
pub record IsMarkedWith (steps : List Inference) (i : ℕ) (old : List Bool) (numbers : List ℕ) (marks : List Bool) : Type 0 where
  pub each : (j : ℕ) → IsMarked marks j ↔ (IsMarked old j ⊎ IsNamed steps i numbers j)

named_none : (steps : List Inference) (i j : ℕ) → IsNamed steps i [] j → ⊥
named_none steps i j named = named.named

pub marked_none : (steps : List Inference) (i : ℕ) (old : List Bool) → IsMarkedWith steps i old [] old
marked_none steps i old = record { each = λ j. (λ h. inl h, elim [ inl h ↦ h | inr n ↦ absurd (named_none steps i j n) ]) }

named_more : (steps : List Inference) (i : ℕ) (numbers : List ℕ) (n j : ℕ) → IsNamed steps i numbers j
    → IsNamed steps i (numbers ++ n ∷ []) j
named_more steps i numbers n j named = search (rules, push_in)

-- the number stands for no step before i
pub marked_pass : (steps : List Inference) (i : ℕ) (old : List Bool) (numbers : List ℕ) (marks : List Bool) (n : ℕ)
    → ((j : ℕ) (step : Inference) → IsAt steps j step → step.number ≡ n → j < i → ⊥)
    → IsMarkedWith steps i old numbers marks → IsMarkedWith steps i old (numbers ++ n ∷ []) marks
marked_pass steps i old numbers marks n none with_these = search (rules, named_more, in_push)

-- the number stands for the step at p alone, which is before i
pub marked_one : (steps : List Inference) (i : ℕ) (old : List Bool) (numbers : List ℕ) (marks : List Bool) (n p : ℕ) (step : Inference)
    → IsAt steps p step → step.number ≡ n → p < i → p < length marks
    → ((j : ℕ) (other : Inference) → IsAt steps j other → other.number ≡ n → j ≡ p)
    → IsMarkedWith steps i old numbers marks → IsMarkedWith steps i old (numbers ++ n ∷ []) (set marks p true)
marked_one steps i old numbers marks n p step here is before inside only with_these = record {
  each = λ j.
      let w = with_these.each j in
      let m = marked_set marks p inside j in (
        λ h. elim (m.0 h) [
          | inl k ↦ elim (w.0 k) [ inl o ↦ inl o | inr q ↦ inr (named_more steps i numbers n j q) ]
          | inr e ↦ inr (record {
            before = subst (λ x. x < i) (sym e) before;
            step = step;
            here = subst (λ x. IsAt steps x step) (sym e) here;
            named = push_in numbers n step.number (inr is);
          })
        ],
        elim [
          | inl k ↦ m.1 (inl (w.1 (inl k)))
          | inr q ↦ elim (in_push numbers n q.step.number q.named) [
            | inl k ↦ m.1 (inl (w.1 (inr (record { before = q.before; step = q.step; here = q.here; named = k }))))
            | inr e ↦ m.1 (inr (only j q.step q.here e))
          ]
        ],
      );
}

-- the step is marked, if it was found
pub marked_found : (steps : List Inference) (i : ℕ) (old : List Bool) (numbers : List ℕ) (marks : List Bool) (n : ℕ) (found : Option ℕ)
    → FindsEarlier steps i n found → length marks ≡ length steps
    → IsMarkedWith steps i old numbers marks → IsMarkedWith steps i old (numbers ++ n ∷ []) (with_mark marks found)
marked_found steps i old numbers marks n None none long with_these = marked_pass steps i old numbers marks n none with_these
marked_found steps i old numbers marks n (Some p) at long with_these =
    let within = slice_get_within steps p at.step at.here in
    marked_one steps i old numbers marks n p at.step at.here at.named at.before (omega (arith, within, long)) at.only with_these

-- while the core is marked downwards: every mark is of the core, and each step that a mark at or above i needs is marked
pub record IsMarking (steps : List Inference) (goal i : ℕ) (marks : List Bool) : Type 0 where
  pub long : length marks ≡ length steps
  pub start : IsMarked marks goal
  pub sound : (j : ℕ) → IsMarked marks j → IsInCore steps j
  pub full : (j k : ℕ) → i ≤ j → IsMarked marks j → Needs steps j k → IsMarked marks k

-- at the end the marks are the core
same_goal : (steps : List Inference) (i j : ℕ) → IsGoal steps i → IsGoal steps j → i ≡ j
same_goal steps i j a b = search rules

pub marking_done : (steps : List Inference) (top : ℕ) (marks : List Bool) → IsGoal steps top → IsMarking steps top 0 marks
    → (i : ℕ) → IsMarked marks i ↔ IsInCore steps i
marking_done steps top marks is_goal marking i = (marking.sound i, reached)
  where
    reached : {j : ℕ} → IsInCore steps j → IsMarked marks j
    reached (goal {i = j} is) = subst (λ x. IsMarked marks x) (same_goal steps top j is_goal is) marking.start
    reached (next {i = j} {j = k} core needs) = marking.full j k (omega arith) (reached core) needs

none_marked : (n j : ℕ) → IsMarked (replicate n false) j → ⊥
none_marked zero j h = cc
none_marked (suc n) zero h = cc
none_marked (suc n) (suc j) h = none_marked n j h

goal_within : (steps : List Inference) (top : ℕ) → IsGoal steps top → top < length steps
goal_within steps top is_goal = slice_get_within steps top is_goal.step is_goal.here

-- at first the goal alone is marked
pub marking_init : (steps : List Inference) (top count : ℕ) (marks : List Bool) → IsGoal steps top → count ≡ length steps
    → marks ≡ replicate count false
    → IsMarking steps top count (set marks top true)
marking_init steps top count marks is_goal all are = record {
  long = length-set marks top true ∙ (ap length are ∙ (length-replicate count false ∙ all));
  start = (marked_set marks top inside top).1 (inr refl);
  sound = λ j h. subst (λ x. IsInCore steps x) (sym (only j h)) (goal is_goal);
  full = λ j k up h needs. absurd (let e : j ≡ top = only j h in omega (arith, below));
}
  where
    below : top < length steps
    below = goal_within steps top is_goal

    many : length marks ≡ count
    many = ap length are ∙ length-replicate count false

    inside : top < length marks
    inside = omega (arith, below, many, all)

    only : (j : ℕ) → IsMarked (set marks top true) j → j ≡ top
    only j h = search (rules, marked_set, inside, none_marked)

-- a position that is not marked can be skipped
pub marking_skip : (steps : List Inference) (top i p : ℕ) (marks : List Bool) → i ≡ p + 1 → (IsMarked marks p → ⊥)
    → IsMarking steps top i marks → IsMarking steps top p marks
marking_skip steps top i p marks next_is out marking = record {
  long = marking.long;
  start = marking.start;
  sound = marking.sound;
  full = λ j k up h needs. elim (cases_eq j p) [
    | inl e ↦ absurd (out (subst (λ x. IsMarked marks x) e h))
    | inr ne ↦ marking.full j k (omega arith) h needs
  ];
}

-- each step that the step at p needs is named there
named_by : (steps : List Inference) (p : ℕ) (numbers : List ℕ) → ((step : Inference) → IsAt steps p step → numbers ≡ step.ants)
    → (j k : ℕ) → j ≡ p → Needs steps j k → IsNamed steps p numbers k
named_by steps p numbers ants j k e needs = search rules

-- a position that is marked has its antecedents marked
pub marking_step : (steps : List Inference) (top i p : ℕ) (marks new : List Bool) (step : Inference) → i ≡ p + 1 → IsAt steps p step
    → IsMarked marks p → length new ≡ length marks
    → ((j : ℕ) → IsMarked new j ↔ (IsMarked marks j ⊎ IsNamed steps p step.ants j))
    → IsMarking steps top i marks → IsMarking steps top p new
marking_step steps top i p marks new step next_is at marked same_length each marking = record {
  long = same_length ∙ marking.long;
  start = (each top).1 (inl marking.start);
  sound = λ j h. elim ((each j).0 h) [ inl k ↦ marking.sound j k | inr named ↦ next (marking.sound p marked) (needed j named) ];
  full = search (rules, cases_eq, named_by);
}
  where
    needed : (j : ℕ) → IsNamed steps p step.ants j → Needs steps p j
    needed j named = record {
      before = named.before;
      above = step;
      at_above = at;
      below = named.step;
      at_below = named.here;
      named = named.named;
    }

pub core_within : (steps : List Inference) (i : ℕ) → IsInCore steps i → i < length steps
core_within steps i (goal is) = goal_within steps i is
core_within steps i (next core needs) = slice_get_within steps i needs.below needs.at_below
