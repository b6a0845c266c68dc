-- The core's steps are added one by one, and the truth stays.
use Rattle.trace_check.proofs.Cited.{◌≡◌, ◌↔◌, ℕ, zero, suc, ◌<◌, List, [], ◌∷◌, ◌++◌, inl, inr, refl, sym, subst, take, arith, rules}
use Rattle.trace_check.proofs.Cited.{Literal, ◌∈◌, ◌⊆◌, Side, Clauses, Cubes, IsClean, IsInitial, AreBound, Qbf, IsClosed, IsTrueFormula}
use Rattle.trace_check.proofs.Cited.{IsAt, Inference, Rules, IsInCore, next, Derives, antecedent_conditions, lits_of, step_conditions}
use Rattle.trace_check.proofs.Cited.{AllHold, initial_condition, IsTrueWithSets, AreOfCore, CoreKeepsTheTruth, in_append, append_left}
use Rattle.trace_check.proofs.Cited.{append_right}
use Rattle.qbf_core.proofs.TruthLaws.{fewer_clauses, fewer_cubes, beside_none}
use Rattle.trace_check.proofs.AddedSets.{AreGood, Grown, one_grown, grown_on, initial_grows, reduct_grows}
use Rattle.trace_check.proofs.ParentsReduced.{resolved_grown}
use Rattle.core_walk.proofs.NamedSteps.{need_of}

initial_of : (side : Side) (f : Qbf) (lits : List Literal) → (initial_condition side f lits).1 → IsInitial side f lits
initial_of side f lits h = search rules

module _ (rules : Rules) (side : Side) (f : Qbf) (steps : List Inference) (closed : IsClosed f) (derives : Derives rules side f steps) where
  -- literals that can be added to any good sets, with what they follow from
  abbrev CanGrow : List Literal → Type 0
  CanGrow lits = (sets : List (List Literal)) → AreGood f sets → Grown side f sets lits

  -- once its antecedents are added, a step is
  by_rule : (before : List Inference) (ants : List ℕ) (lits : List Literal) → IsClean lits → AreBound f.blocks lits
      → ((m : ℕ) → m ∈ ants → CanGrow (lits_of before m))
      → AllHold (antecedent_conditions rules side f before ants lits) → CanGrow lits
  by_rule before [] lits clean bound earlier (initial, _) sets good = search (rules, one_grown, initial_grows, initial_of)
  by_rule before (m ∷ []) lits clean bound earlier (within, (each, _)) sets good =
      grown_on side f sets (lits_of before m) lits (earlier m (inl refl) sets good)
      (λ all good_all more here.
      one_grown side f all lits (reduct_grows side f all (lits_of before m) lits closed good_all here
      (record { within = within; each = each })) good_all clean bound)
  by_rule before (m ∷ n ∷ rest) lits clean bound earlier (some, (one, (_, (within, (each, _))))) sets good =
      grown_on side f sets (lits_of before m) lits (earlier m (inl refl) sets good)
      (λ one_more good_one more_one here_m.
      grown_on side f one_more (lits_of before n) lits (earlier n (inr (inl refl)) one_more good_one)
      (λ two_more good_two more_two here_n.
      resolved_grown side f (lits_of before m) (lits_of before n) lits
      (record {
        pivot = some.0;
        clash = record { clashes = some.1; only = λ v c. one v some.0 c some.1 };
        within = within some.0 some.1;
        each = each some.0 some.1;
      })
      two_more closed good_two (more_two (lits_of before m) here_m) here_n clean bound))

  -- each step of the core, by those before it
  core_grows : (n i : ℕ) → i < n → IsInCore steps i → (step : Inference) → IsAt steps i step → CanGrow step.lits
  core_grows zero i less core step here = absurd (omega arith)
  core_grows (suc n) i less core step here =
      (let w = derives.each i core in of_rows w.step w.here w.all) (λ j before. core_grows n j (omega arith))
    where
      of_rows : (above : Inference) → IsAt steps i above → AllHold (step_conditions rules side f (take i steps) above)
          → ((j : ℕ) → j < i → IsInCore steps j → (below : Inference) → IsAt steps j below → CanGrow below.lits) → CanGrow step.lits
      of_rows above there (clean, (bound, (names, rows))) earlier =
          let same : above ≡ step = cc (there, here) in
          subst (λ s. CanGrow s.lits) same
          (by_rule (take i steps) above.ants above.lits clean bound
          (λ m h.
          let w = need_of steps i above m there h (names m h) in
          subst (λ lits. CanGrow lits) w.3 (earlier w.0 w.1.before (next core w.1) w.1.below w.1.at_below))
          rows)

  -- sets among good ones that change no truth
  record Among (sets : List (List Literal)) : Type 0 where
    pub all : List (List Literal)
    pub within : sets ⊆ all
    pub good : AreGood f all
    pub kept : IsTrueWithSets side f [] ↔ IsTrueWithSets side f all

  among : (sets : List (List Literal)) → AreOfCore steps sets → Among sets
  among [] of_core = record { all = []; within = λ s h. h; good = λ s h. absurd h; kept = (λ t. t, λ t. t) }
  among (lits ∷ sets) of_core =
      let rest = among sets (λ s h. of_core s (inr h)) in
      let w = of_core lits (inl refl) in
      let grown = subst (λ l. Grown side f rest.all l) w.4 (core_grows (suc w.0) w.0 (omega arith) w.2 w.1 w.3 rest.all rest.good) in
      record {
        all = grown.all;
        within = λ s. elim [ inl e ↦ subst (λ k. k ∈ grown.all) (sym e) grown.here | inr h ↦ grown.more s (rest.within s h) ];
        good = grown.good;
        kept = (λ t. grown.kept.0 (rest.kept.0 t), λ t. rest.kept.1 (grown.kept.1 t));
      }

-- truth with more clauses is truth with fewer, and truth with fewer cubes is truth with more
clauses_between : (f : Qbf) (some all : List (List Literal)) → some ⊆ all → IsTrueWithSets Clauses f all → IsTrueWithSets Clauses f some
clauses_between f some all within = fewer_clauses f.blocks (all ++ f.clauses) (some ++ f.clauses)
    (λ c h.
    elim (in_append some f.clauses c h) [ inl k ↦ append_left all f.clauses c (within c k) | inr k ↦ append_right all f.clauses c k ])

between : (side : Side) (f : Qbf) (sets all : List (List Literal)) → sets ⊆ all → IsTrueWithSets side f [] ↔ IsTrueWithSets side f all
    → IsTrueFormula f ↔ IsTrueWithSets side f sets
between Clauses f sets all within kept =
    (λ t. clauses_between f sets all within (kept.0 t), λ t. clauses_between f [] sets (λ c none. absurd none) t)
between Cubes f sets all within kept = search (rules, fewer_cubes, beside_none)

pub core_keeps : CoreKeepsTheTruth
core_keeps rules side f steps sets closed derives of_core =
    let w = among rules side f steps closed derives sets of_core in between side f sets w.all w.within w.kept
