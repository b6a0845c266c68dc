-- Who keeps to the decisions of a proof wins.
use Rattle.trace_check.proofs.Cited.{arith, ◌≡◌, ◌<◌, ◌≤◌, ◌⊎◌, ◌∙◌, ℕ, zero, suc, Bool, true, false, List, [], ◌∷◌, inl, inr, refl, sym}
use Rattle.trace_check.proofs.Cited.{ap, subst, take, Some, slice_get, Literal, ◌∈◌, ◌⊆◌, IsClean, Side, Clauses, Cubes, Clashes}
use Rattle.trace_check.proofs.Cited.{Qbf, IsClosed, IsBound, AreBound, pairs, bound_each, cases_order, Inference, IsAt, Rules, Derives, side_of, IsInCore}
use Rattle.trace_check.proofs.Cited.{ListsCore, IsNumberOf, lits_of, AllHold, antecedent_conditions, step_conditions, goal, next}
use Rattle.trace_check.proofs.Cited.{false≢true}
use Rattle.qbf_core.specs.Blocks.{Binds, variables}
use Rattle.qbf_core.specs.Literal.{negated, positive, negative}
use Rattle.qbf_core.specs.Rules.{IsReducible, IsTotal, reduced_quantifier}
use Rattle.std.proofs.Common.{map, not}
use Rattle.std.proofs.lemmas.Bool.{cases_Bool}
use Rattle.qbf_core.proofs.Bound.{apart_of, binds_in, bound_in, in_bound, block_found, block, closed_each, Distinct}
use Rattle.qbf_core.proofs.Members.{in_got, lit_is, negated_twice, only_literal}
use Rattle.qbf_core.proofs.Inferences.{keeps_cube_holds}
use Rattle.qbf_completeness.proofs.Players.{mine_is}
use Rattle.qbf_core.proofs.Leaves.{leaf_is_clean, leaf_is_total, pairs_ascend}
use Rattle.core_walk.proofs.NamedSteps.{need_of}
use Rattle.qbf_completeness.specs.Strategies.{literal_of}
use Rattle.qbf_completeness.specs.Setting.{are_set}
use Rattle.qbf_strategy.specs.Decisions.{Decision, decided, play_by, wanted}
use Rattle.proof_decisions.specs.ProofDecisions.{IsNeeded, IsFullyReduced, CoversParent, CoversInitial, Covers, IsDecisionAt, AreDecisionsOf}
use Rattle.qbf_strategy.specs.Winning.{IsWon}
use Rattle.proof_decisions.specs.Laws.{DecisionsWin}
use Rattle.qbf_strategy.proofs.Setting.{all_set, set_all, first_decides}
use Rattle.qbf_strategy.proofs.Played.{play_is_leaf, played}

-- the literal as the player of a side wants it
abbrev pub want : Side → Literal → Literal
want side l = wanted (reduced_quantifier side) l

-- the wanted literals as a list
in_map : (side : Side) (lits : List Literal) (l : Literal) → l ∈ lits → want side l ∈ map (want side) lits
in_map side [] l h = absurd h
in_map side (x ∷ xs) l (inl e) = inl (ap (want side) e)
in_map side (x ∷ xs) l (inr h) = inr (in_map side xs l h)

from_map : (side : Side) (lits : List Literal) (m : Literal) → m ∈ map (want side) lits → (l : Literal) × (l ∈ lits) × (m ≡ want side l)
from_map side [] m h = absurd h
from_map side (x ∷ xs) m (inl e) = (x, inl refl, e)
from_map side (x ∷ xs) m (inr h) = let t = from_map side xs m h in (t.0, inr t.1, t.2)

wanted_var : (side : Side) (l : Literal) → (want side l).var ≡ l.var
wanted_var Clauses l = refl
wanted_var Cubes l = refl

wanted_negated : (side : Side) (l : Literal) → want side (negated l) ≡ negated (want side l)
wanted_negated Clauses l = refl
wanted_negated Cubes l = refl

-- what a literal must be, for its wanted one to be the negation of another's
wanted_clash : (side : Side) (l k : Literal) → negated (want side l) ≡ want side k → k ≡ negated l
wanted_clash Clauses l k e = sym (negated_twice k) ∙ (ap negated (sym e) ∙ negated_twice (negated l))
wanted_clash Cubes l k e = sym e

wanted_clean : (side : Side) (lits : List Literal) → IsClean lits → IsClean (map (want side) lits)
wanted_clean side lits clean m h k =
    let a = from_map side lits m h in
    let b = from_map side lits (negated m) k in
    let e : negated (want side a.0) ≡ want side b.0 = ap negated (sym a.2) ∙ b.2 in
    clean a.0 a.1 (subst (λ z. z ∈ lits) (wanted_clash side a.0 b.0 e) b.1)

-- all that the player wants of the lits is set
abbrev pub Reached : Side → List Literal → List Literal → Type 0
Reached side lits t = (l : Literal) → l ∈ lits → want side l ∈ t

reached_map : (side : Side) (lits t : List Literal) → map (want side) lits ⊆ t → Reached side lits t
reached_map side lits t all l h = all (want side l) (in_map side lits l h)

map_reached : (side : Side) (lits t : List Literal) → Reached side lits t → map (want side) lits ⊆ t
map_reached side lits t all m h = let w = from_map side lits m h in subst (λ x. x ∈ t) (sym w.2) (all w.0 w.1)

module _ (side : Side) (f : Qbf) where
  -- a literal that is needed is not reducible
  needed_stays : (lits : List Literal) (l : Literal) → IsBound f.blocks l.var → ((m : Literal) → m ∈ lits → IsBound f.blocks m.var)
      → IsNeeded side f.blocks lits l → IsReducible side f.blocks lits l → ⊥
  needed_stays lits l bound each (m, h, theirs, low) red =
      let at_m = block_found f.blocks m.var (each m h) in
      let at_l = block_found f.blocks l.var bound in
      let less : block f.blocks m.var < block f.blocks l.var = red.1 m h theirs (block f.blocks m.var) (block f.blocks l.var) at_m at_l in
      let more : block f.blocks l.var ≤ block f.blocks m.var = low (block f.blocks l.var) (block f.blocks m.var) at_l at_m in
      omega (arith, less, more)

  -- what is kept stands before what is removed
  kept_before : (lits : List Literal) (k l : Literal) → ((m : Literal) → m ∈ lits → IsBound f.blocks m.var)
      → IsBound f.blocks k.var → IsBound f.blocks l.var → IsNeeded side f.blocks lits k → IsReducible side f.blocks lits l
      → block f.blocks k.var < block f.blocks l.var
  kept_before lits k l each bound_k bound_l (m, h, theirs, low) red =
      let at_m = block_found f.blocks m.var (each m h) in
      let at_l = block_found f.blocks l.var bound_l in
      let at_k = block_found f.blocks k.var bound_k in
      let less : block f.blocks m.var < block f.blocks l.var = red.1 m h theirs (block f.blocks m.var) (block f.blocks l.var) at_m at_l in
      let more : block f.blocks k.var ≤ block f.blocks m.var = low (block f.blocks k.var) (block f.blocks m.var) at_k at_m in
      omega (arith, less, more)

-- ---- one step

module _ (by : Rules) (side : Side) (f : Qbf) (closed : IsClosed f) (t : List Literal) (clean : IsClean t) (total : IsTotal f.blocks t) where
  -- the literals of a parent that are not reducible in it are set as the player wants them
  abbrev pub IsMet : List Literal → Type 0
  IsMet parent = (l : Literal) → l ∈ parent → (want side l ∈ t) ⊎ IsReducible side f.blocks parent l

  -- a parent has bound literals, and is not met
  pub record IsParent (parent : List Literal) : Type 0 where
    pub bound : (l : Literal) → l ∈ parent → IsBound f.blocks l.var
    pub missed : IsMet parent → ⊥

  initial_wins : (before : List Inference) (lits kept removed : List Literal) → AllHold (antecedent_conditions by side f before [] lits)
      → Covers side f before [] lits kept removed → Reached side kept t → Reached side removed t → IsWon (reduced_quantifier side) f t
  initial_wins before lits kept removed rows covers reached also = by_side side rows covers reached also
    where
      by_side : (side : Side) → AllHold (antecedent_conditions by side f before [] lits)
          → CoversInitial side f lits kept removed → Reached side kept t → Reached side removed t → IsWon (reduced_quantifier side) f t
      by_side Clauses rows (clause, h, each) reached also = λ holds.
          let w = holds clause h in
          elim (each w.0 w.1) [
            | inl k ↦ clean w.0 w.2 (reached w.0 k)
            | inr r ↦ clean w.0 w.2 (also w.0 r)
          ]
      by_side Cubes (initial, _) covers reached also =
          keeps_cube_holds f (closed_each f.blocks f.clauses closed.bound) lits initial t total
          (λ l h. elim (covers l h) [ inl k ↦ reached l k | inr r ↦ also l r ])

  covered : (parent kept removed : List Literal) (but : Literal → Type 0) → CoversParent side f.blocks parent kept removed but
      → Reached side kept t → Reached side removed t → ((l : Literal) → l ∈ parent → but l → want side l ∈ t) → IsMet parent
  covered parent kept removed but covers reached also others l h = elim (covers l h) [
    | inl is ↦ inl (others l h is)
    | inr (inl k) ↦ inl (reached l k)
    | inr (inr (inl r)) ↦ inl (also l r)
    | inr (inr (inr red)) ↦ inr red
  ]

  -- of the two literals of the pivot, the player wants one that is set
  pivot_set : (x : ℕ) → IsBound f.blocks x → (want side (positive x) ∈ t) ⊎ (want side (negative x) ∈ t)
  pivot_set x bound = by_side side (total x bound)
    where
      by_side : (side : Side) → (positive x ∈ t) ⊎ (negative x ∈ t) → (want side (positive x) ∈ t) ⊎ (want side (negative x) ∈ t)
      by_side Clauses (inl p) = inr p
      by_side Clauses (inr n) = inl n
      by_side Cubes w = w

  resolved_wins : (a b kept removed : List Literal) (x : ℕ) → IsParent a → IsParent b → IsClean a → IsClean b → Clashes a b x
      → CoversParent side f.blocks a kept removed (λ l. l.var ≡ x) → CoversParent side f.blocks b kept removed (λ l. l.var ≡ x)
      → Reached side kept t → Reached side removed t → ⊥
  resolved_wins a b kept removed x of_a of_b clean_a clean_b clash covers_a covers_b reached also = by_clash clash
    where
      only : (parent : List Literal) (p : Literal) → IsClean parent → p ∈ parent → p.var ≡ x → want side p ∈ t
          → (l : Literal) → l ∈ parent → l.var ≡ x → want side l ∈ t
      only parent p one h is w l k e = subst (λ z. want side z ∈ t) (sym (only_literal parent p one h l k (e ∙ sym is))) w

      met_a : (p : Literal) → p ∈ a → p.var ≡ x → want side p ∈ t → ⊥
      met_a p h is w = of_a.missed (covered a kept removed (λ l. l.var ≡ x) covers_a reached also (only a p clean_a h is w))

      met_b : (p : Literal) → p ∈ b → p.var ≡ x → want side p ∈ t → ⊥
      met_b p h is w = of_b.missed (covered b kept removed (λ l. l.var ≡ x) covers_b reached also (only b p clean_b h is w))

      by_clash : Clashes a b x → ⊥
      by_clash (inl (p, n)) = elim (pivot_set x (of_a.bound (positive x) p)) [
        | inl w ↦ met_a (positive x) p refl w
        | inr w ↦ met_b (negative x) n refl w
      ]
      by_clash (inr (n, p)) = elim (pivot_set x (of_a.bound (negative x) n)) [
        | inl w ↦ met_b (positive x) p refl w
        | inr w ↦ met_a (negative x) n refl w
      ]

  step_wins : (before : List Inference) (ants : List ℕ) (lits kept removed : List Literal)
      → AllHold (antecedent_conditions by side f before ants lits) → Covers side f before ants lits kept removed
      → Reached side kept t → Reached side removed t
      → ((n : ℕ) → n ∈ ants → IsParent (lits_of before n)) → ((n : ℕ) → n ∈ ants → IsClean (lits_of before n)) → IsWon (reduced_quantifier side) f t
  step_wins before [] lits kept removed rows covers reached also parents cleans = initial_wins before lits kept removed rows covers reached also
  step_wins before (m ∷ []) lits kept removed rows covers reached also parents cleans =
      absurd ((parents m (inl refl)).missed
      (covered (lits_of before m) kept removed (λ l. ⊥) covers reached also (λ l h none. absurd none)))
  step_wins before (m ∷ n ∷ more) lits kept removed (some, _) covers reached also parents cleans =
      let both = covers some.0 some.1 in
      absurd (resolved_wins (lits_of before m) (lits_of before n) kept removed some.0 (parents m (inl refl)) (parents n (inr (inl refl)))
      (cleans m (inl refl)) (cleans n (inr (inl refl))) some.1 both.0 both.1 reached also)

-- ---- all steps

-- the decision at a place, and the step that it is of
pub decision_at : (side : Side) (f : Qbf) (steps : List Inference) (core : List ℕ) (ds : List Decision) → AreDecisionsOf side f steps core ds
    → (k i : ℕ) → slice_get core k ≡ Some i → (d : Decision) × (slice_get ds k ≡ Some d) × IsDecisionAt side f steps i d
decision_at side f steps [] ds are k i here = absurd (cc here)
decision_at side f steps (j ∷ core) [] are k i here = absurd are
decision_at side f steps (j ∷ core) (d ∷ ds) are zero i here =
    let same : j ≡ i = cc here in (d, refl, subst (λ n. IsDecisionAt side f steps n d) same are.0)
decision_at side f steps (j ∷ core) (d ∷ ds) are (suc k) i here = decision_at side f steps core ds are.1 k i here

pub place_of : (side : Side) (f : Qbf) (steps : List Inference) (core : List ℕ) (ds : List Decision) → AreDecisionsOf side f steps core ds
    → (k : ℕ) (d : Decision) → slice_get ds k ≡ Some d → (i : ℕ) × (slice_get core k ≡ Some i) × IsDecisionAt side f steps i d
place_of side f steps [] [] are k d here = absurd (cc here)
place_of side f steps [] (e ∷ ds) are k d here = absurd are
place_of side f steps (j ∷ core) [] are k d here = absurd are
place_of side f steps (j ∷ core) (e ∷ ds) are zero d here =
    let same : e ≡ d = cc here in (j, refl, subst (λ c. IsDecisionAt side f steps j c) same are.0)
place_of side f steps (j ∷ core) (e ∷ ds) are (suc k) d here = place_of side f steps core ds are.1 k d here

-- the first decision whose literals are set
pub record First (ds : List Decision) (t : List Literal) : Type 0 where
  pub place : ℕ
  pub decision : Decision
  pub here : slice_get ds place ≡ Some decision
  pub fires : are_set decision.when t ≡ true
  pub earlier : (j : ℕ) (e : Decision) → j < place → slice_get ds j ≡ Some e → are_set e.when t ≡ false

first_before : (e : Decision) (ds : List Decision) (t : List Literal) (place : ℕ) → are_set e.when t ≡ false
    → ((j : ℕ) (c : Decision) → j < place → slice_get ds j ≡ Some c → are_set c.when t ≡ false)
    → (j : ℕ) (c : Decision) → j < suc place → slice_get (e ∷ ds) j ≡ Some c → are_set c.when t ≡ false
first_before e ds t place isnt earlier zero c less at =
    let same : e ≡ c = cc at in subst (λ (x : Decision). are_set x.when t ≡ false) same isnt
first_before e ds t place isnt earlier (suc j) c less at = earlier j c (omega (arith, less)) at

first_later : (e : Decision) (ds : List Decision) (t : List Literal) → are_set e.when t ≡ false → First ds t → First (e ∷ ds) t
first_later e ds t isnt rest = record {
  place = suc rest.place;
  decision = rest.decision;
  here = rest.here;
  fires = rest.fires;
  earlier = first_before e ds t rest.place isnt rest.earlier;
}

first_here : (e : Decision) (ds : List Decision) (t : List Literal) → are_set e.when t ≡ true → First (e ∷ ds) t
first_here e ds t is =
    record { place = zero; decision = e; here = refl; fires = is; earlier = λ j c less at. absurd (omega (arith, less)) }

first_of_all : (ds : List Decision) (t : List Literal) (k : ℕ) (d : Decision) → slice_get ds k ≡ Some d → are_set d.when t ≡ true → First ds t
first_of_all [] t k d here fires = absurd (cc here)
first_of_all (e ∷ ds) t zero d here fires =
    let same : e ≡ d = cc here in first_here e ds t (subst (λ (x : Decision). are_set x.when t ≡ true) (sym same) fires)
first_of_all (e ∷ ds) t (suc k) d here fires = elim (cases_Bool (are_set e.when t)) [
  | inl is ↦ first_here e ds t is
  | inr isnt ↦ first_later e ds t isnt (first_of_all ds t k d here fires)
]

literal_again : (m : Literal) → literal_of m.var (not m.negative) ≡ m
literal_again m = elim (lit_is m m.var refl) [
  | inl e ↦ subst (λ (z : Literal). literal_of z.var (not z.negative) ≡ z) (sym e) refl
  | inr e ↦ subst (λ (z : Literal). literal_of z.var (not z.negative) ≡ z) (sym e) refl
]

module _ (by : Rules) (side : Side) (f : Qbf) (steps : List Inference) (derives : Derives by side f steps) where
  -- what is known of a step of the core: its literals are clean and bound
  pub step_facts : (i : ℕ) (step : Inference) → IsInCore steps i → IsAt steps i step → IsClean step.lits × AreBound f.blocks step.lits
      × ((n : ℕ) → n ∈ step.ants → IsNumberOf (take i steps) n)
      × AllHold (antecedent_conditions by side f (take i steps) step.ants step.lits)
  step_facts i step is here =
      let w = derives.each i is in
      let same : w.step ≡ step = cc (here, w.here) in
      of_rows step (subst (λ s. AllHold (step_conditions by side f (take i steps) s)) same w.all)
    where
      of_rows : (s : Inference) → AllHold (step_conditions by side f (take i steps) s) → IsClean s.lits × AreBound f.blocks s.lits
          × ((n : ℕ) → n ∈ s.ants → IsNumberOf (take i steps) n)
          × AllHold (antecedent_conditions by side f (take i steps) s.ants s.lits)
      of_rows s (clean, (bound, (names, rows))) = (clean, bound, names, rows)

module _ (by : Rules) (side : Side) (f : Qbf) (steps : List Inference) (core : List ℕ) (ds : List Decision) (closed : IsClosed f)
    (derives : Derives by side f steps) (lists : ListsCore steps core) (are : AreDecisionsOf side f steps core ds) where
  apart : Distinct (variables (pairs f.blocks))
  apart = apart_of (variables (pairs f.blocks)) closed.distinct

  reducible_bound : (lits : List Literal) (l : Literal) → IsReducible side f.blocks lits l → IsBound f.blocks l.var
  reducible_bound lits l red =
      in_bound (pairs f.blocks) (reduced_quantifier side) l.var (binds_in (pairs f.blocks) (reduced_quantifier side) l.var red.0)

  -- each variable that a decision sets is bound
  pub sets_bound : (d : Decision) → d ∈ ds → (l : Literal) → l ∈ d.sets → IsBound f.blocks l.var
  sets_bound d h l k =
      let got = in_got ds d h in
      let p = place_of side f steps core ds are got.0 d got.1 in
      let r = from_map side p.2.decision.removed l (subst (λ ls. l ∈ ls) p.2.decision.sets k) in
      let var_of : Literal → ℕ = λ z. z.var in
      subst (λ n. IsBound f.blocks n) (sym (ap var_of r.2 ∙ wanted_var side r.0))
      (reducible_bound p.2.step.lits r.0 (p.2.decision.reducible r.0 r.1))

  -- each decision sees variables that stand before those that it sets
  pub sees_before : (v : ℕ) (d : Decision) → d ∈ ds → (l : Literal) → l ∈ d.sets → l.var ≡ v → (w : Literal) → w ∈ d.when
      → IsBound f.blocks w.var × (block f.blocks w.var < block f.blocks v)
  sees_before v d h l k e w m =
      let got = in_got ds d h in
      let p = place_of side f steps core ds are got.0 d got.1 in
      let facts = step_facts by side f steps derives p.0 p.2.step (lists.sound got.0 p.0 p.1) p.2.here in
      let dec = p.2.decision in
      let r = from_map side dec.removed l (subst (λ ls. l ∈ ls) dec.sets k) in
      let q = from_map side dec.kept w (subst (λ ls. w ∈ ls) dec.when m) in
      let red = dec.reducible r.0 r.1 in
      let bound : (z : Literal) → z ∈ p.2.step.lits → IsBound f.blocks z.var = bound_each f.blocks p.2.step.lits facts.1 in
      let of_k = bound q.0 (dec.reduced.within q.0 q.1) in
      let less : block f.blocks q.0.var < block f.blocks r.0.var = kept_before side f p.2.step.lits q.0 r.0 bound of_k
      (reducible_bound p.2.step.lits r.0 red) (dec.reduced.needed q.0 q.1) red in
      let var_of : Literal → ℕ = λ z. z.var in
      let w_is : q.0.var ≡ w.var = sym (ap var_of q.2 ∙ wanted_var side q.0) in
      let l_is : r.0.var ≡ v = sym (ap var_of r.2 ∙ wanted_var side r.0) ∙ e in (
        subst (λ n. IsBound f.blocks n) w_is of_k,
        subst (λ n. block f.blocks w.var < block f.blocks n) l_is (subst (λ n. block f.blocks n < block f.blocks r.0.var) w_is less),
      )

  -- any end that is clean and total, where each variable of the player has the value that is decided there, is won
  module _ (t : List Literal) (is_clean : IsClean t) (is_total : IsTotal f.blocks t)
      (is_played : (v : ℕ) → Binds f.blocks (reduced_quantifier side) v → (otherwise : Bool) × (literal_of v (decided otherwise ds v t) ∈ t)) where
    -- the goal's decision fires
    goal_fires : First ds t
    goal_fires =
        let g = derives.is_goal in
        let p = lists.full derives.position (goal g) in
        let d = decision_at side f steps core ds are p.0 derives.position p.1 in
        let same : d.2.step ≡ g.step = cc (d.2.here, g.here) in
        let none : d.2.step.lits ≡ [] = ap (λ (s : Inference). s.lits) same ∙ g.empty in
        first_of_all ds t p.0 d.0 d.1 (set_all d.0.when t (λ w h.
        let k = from_map side d.2.decision.kept w (subst (λ ls. w ∈ ls) d.2.decision.when h) in
        let gone : k.0 ∈ [] = subst (λ (ls : List Literal). k.0 ∈ ls) none (d.2.decision.reduced.within k.0 k.1) in
        absurd gone))

    module _ (first : First ds t) (i : ℕ) (at : slice_get core first.place ≡ Some i) (dec : IsDecisionAt side f steps i first.decision) where
      is_needed : IsInCore steps i
      is_needed = lists.sound first.place i at

      kept_reached : Reached side dec.decision.kept t
      kept_reached = reached_map side dec.decision.kept t
          (subst (λ ls. ls ⊆ t) dec.decision.when (all_set first.decision.when t first.fires))

      removed_reached : Reached side dec.decision.removed t
      removed_reached l h =
          let m : Literal = want side l in
          let in_sets : m ∈ first.decision.sets = subst (λ ls. m ∈ ls) (sym dec.decision.sets) (in_map side dec.decision.removed l h) in
          let clean_sets : IsClean first.decision.sets = subst (λ ls. IsClean ls) (sym dec.decision.sets)
          (wanted_clean side dec.decision.removed dec.decision.clean) in
          let binds : Binds f.blocks (reduced_quantifier side) m.var =
          subst (λ n. Binds f.blocks (reduced_quantifier side) n) (sym (wanted_var side l)) (dec.decision.reducible l h).0 in
          let played_here = is_played m.var binds in
          let value : decided played_here.0 ds m.var t ≡ not m.negative =
          first_decides played_here.0 ds first.place first.decision m t first.here clean_sets in_sets first.fires first.earlier in
          subst (λ z. z ∈ t) (ap (λ b. literal_of m.var b) value ∙ literal_again m) played_here.1

      parent : (n : ℕ) → n ∈ dec.step.ants
          → IsParent by side f closed t is_clean is_total (lits_of (take i steps) n) × IsClean (lits_of (take i steps) n)
      parent n h =
          let facts = step_facts by side f steps derives i dec.step is_needed dec.here in
          let w = need_of steps i dec.step n dec.here h (facts.2 n h) in
          let needs = w.1 in
          let below_core : IsInCore steps w.0 = next is_needed needs in
          let of_below = step_facts by side f steps derives w.0 needs.below below_core needs.at_below in
          let p = lists.full w.0 below_core in
          let d = decision_at side f steps core ds are p.0 w.0 p.1 in
          let same : d.2.step ≡ needs.below = cc (d.2.here, needs.at_below) in
          let lits_are : d.2.step.lits ≡ lits_of (take i steps) n = ap (λ (s : Inference). s.lits) same ∙ w.3 in
          let bound : (l : Literal) → l ∈ lits_of (take i steps) n → IsBound f.blocks l.var =
          bound_each f.blocks (lits_of (take i steps) n) (subst (λ ls. AreBound f.blocks ls) w.3 of_below.1) in
          let reduced = subst (λ ls. IsFullyReduced side f.blocks ls d.2.decision.kept) lits_are d.2.decision.reduced in
          let quiet : are_set d.0.when t ≡ false = first.earlier p.0 d.0
          (is_earlier p.0 w.0 p.1 needs.before) d.1 in (
            record {
              bound = bound;
              missed = λ met. false≢true (sym quiet ∙ set_all d.0.when t
                  (subst (λ ls. ls ⊆ t) (sym d.2.decision.when) (map_reached side d.2.decision.kept t
                  (λ l k. elim (met l (reduced.within l k)) [
                    | inl is ↦ is
                    | inr red ↦ absurd (needed_stays side f (lits_of (take i steps) n) l (bound l (reduced.within l k)) bound (reduced.needed l k) red)
                  ]))));
            },
            subst (λ ls. IsClean ls) w.3 of_below.0,
          )
        where
          is_earlier : (k j : ℕ) → slice_get core k ≡ Some j → j < i → k < first.place
          is_earlier k j here less = elim (cases_order k first.place) [
            | inl same ↦ (let e : j ≡ i = cc (here, at, same) in absurd (omega (arith, e, less)))
            | inr (inl before) ↦ before
            | inr (inr after) ↦ absurd (omega (arith, less, lists.rises first.place k i j at here after))
          ]

      wins_here : IsWon (reduced_quantifier side) f t
      wins_here =
          let facts = step_facts by side f steps derives i dec.step is_needed dec.here in
          step_wins by side f closed t is_clean is_total (take i steps) dec.step.ants dec.step.lits dec.decision.kept dec.decision.removed
          facts.3 dec.decision.covers kept_reached removed_reached (λ n h. (parent n h).0) (λ n h. (parent n h).1)

    pub obeyed_wins : IsWon (reduced_quantifier side) f t
    obeyed_wins =
        let p = place_of side f steps core ds are goal_fires.place goal_fires.decision goal_fires.here in
        wins_here goal_fires p.0 p.1 p.2

  module _ (otherwise values : ℕ → Bool) where
    abbrev end : List Literal
    end = play_by (reduced_quantifier side) (pairs f.blocks) otherwise ds values []

    end_is_clean : IsClean end
    end_is_clean = leaf_is_clean f.blocks end apart (play_is_leaf (reduced_quantifier side) (pairs f.blocks) otherwise ds values [])

    pub wins : IsWon (reduced_quantifier side) f end
    wins =
        obeyed_wins end end_is_clean
        (leaf_is_total f.blocks end (play_is_leaf (reduced_quantifier side) (pairs f.blocks) otherwise ds values []))
        (λ v binds. (
          otherwise v,
          played (reduced_quantifier side) otherwise ds values (block f.blocks) (λ w. IsBound f.blocks w) (pairs f.blocks) []
              (pairs_ascend f.blocks apart) (λ w h. inl (bound_in (pairs f.blocks) w h)) end_is_clean (reduced_quantifier side) v
              (binds_in (pairs f.blocks) (reduced_quantifier side) v binds) (mine_is side (reduced_quantifier side) refl).0 (sees_before v),
        ))

pub decisions_win : DecisionsWin
decisions_win by f sets steps result core ds closed proves lists are otherwise values =
    wins by (side_of result) f steps core ds closed proves.derives lists are otherwise values
