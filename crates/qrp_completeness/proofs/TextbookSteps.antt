-- Steps as the literature has them are steps here.
use Rattle.trace_check.proofs.Cited.{◌≡◌, ◌≤◌, ℕ, List, [], ◌∷◌, ◌++◌, inl, inr, sym, ap, ◌∙◌, subst, take, arith, cases_eq, refl, Literal, ◌∈◌, ◌⊆◌, IsClean, Side, Clauses, Cubes, IsReduct, IsInitial, Clashes, resolvent, pairs, Qbf, IsClosed, in_append, append_left, append_right, Rules, Inference, IsAt, IsInCore, next, Outcome, lits_of, AllHold, at_place}
use Rattle.trace_check.specs.Sets.{SetsAgree}
use Rattle.trace_check.specs.Proof.{side_of}
use Rattle.qbf_core.specs.declared.quantifier.Quantifier.{Quantifier}
use Rattle.qbf_core.specs.Blocks.{IsBefore, variables}
use Rattle.qbf_core.specs.Literal.{positive, negative, negated}
use Rattle.qbf_core.specs.Rules.{IsReducible, IsOnlyClash, reduced_quantifier, deciding_quantifier}
use Rattle.qbf_core.proofs.Bound.{apart_of, binds_in, in_binds, block, Distinct, pair_var}
use Rattle.qbf_core.proofs.Inferences.{in_without, from_without}
use Rattle.qbf_core.proofs.Leaves.{pairs_ascend}
use Rattle.qbf_core.proofs.Members.{only_literal, same_or_not}
use Rattle.qbf_core.proofs.Reduction.{Ascending}
use Rattle.trace_check.specs.Unreduced.{FollowsUnreduced, ProvesUnreduced, unreduced_antecedents}
use Rattle.core_walk.proofs.Marking.{core_within}
use Rattle.core_walk.proofs.NamedSteps.{need_of}
use Rattle.trace_check.proofs.WiderRules.{reduced_parents_keep}
use Rattle.qbf_completeness.proofs.Deriving.{var_of, clash_at}
use Rattle.qbf_completeness.proofs.SameBlock.{stands_before}
use Rattle.qrp_completeness.specs.Textbook.{StandsAfter, IsAxiom, IsReduction, IsResolution, IsTextbookStep, IsTextbookProof, TextbookProofsAreProofs}
use Rattle.qrp_completeness.proofs.RulesHold.{initial_holds, resolvent_holds}
use Rattle.qrp_rules.specs.Unreduced.{unreduced_conditions}

-- ---- the rules

initial_of : (side : Side) (f : Qbf) (lits : List Literal) → IsAxiom side f lits → IsInitial side f lits
initial_of Clauses f lits (clause, h, clean, same) =
    (clause, h, clean, record { within = λ l k. (same l).0 k; each = λ l k. inl ((same l).1 k) })
initial_of Cubes f lits meets = λ clause h. inr (meets clause h)

-- if numbers ascend, a variable that does not stand after another has no greater number
no_later : (number : ℕ → ℕ) (ps : List (Quantifier × ℕ)) (p q : Quantifier) (v w : ℕ) → Ascending number ps
    → ◌∈◌ {A = Quantifier × ℕ} (p, v) ps → ◌∈◌ {A = Quantifier × ℕ} (q, w) ps → (StandsAfter ps v w → ⊥) → number v ≤ number w
no_later number [] p q v w up h k out = absurd h
no_later number ((r, u) ∷ ps) p q v w up (inl e) (inl d) out =
    let second : Quantifier × ℕ → ℕ = λ a. a.1 in
    let same : number v ≡ number w = ap number (ap second e ∙ sym (ap second d)) in
    omega (arith, same)
no_later number ((r, u) ∷ ps) p q v w up (inl e) (inr k) out =
    let second : Quantifier × ℕ → ℕ = λ a. a.1 in
    subst (λ z. number z ≤ number w) (sym (ap second e)) (up.0 q w k)
no_later number ((r, u) ∷ ps) p q v w up (inr h) (inl d) out =
    let second : Quantifier × ℕ → ℕ = λ a. a.1 in
    absurd (out (inl (sym (ap second d), pair_var ps p v h)))
no_later number ((r, u) ∷ ps) p q v w up (inr h) (inr k) out = no_later number ps p q v w up.1 h k (λ a. out (inr a))

module _ (side : Side) (f : Qbf) (closed : IsClosed f) where
  apart : Distinct (variables (pairs f.blocks))
  apart = apart_of (variables (pairs f.blocks)) closed.distinct

  before : (v w : ℕ) → ◌∈◌ {A = Quantifier × ℕ} (deciding_quantifier side, v) (pairs f.blocks)
      → ◌∈◌ {A = Quantifier × ℕ} (reduced_quantifier side, w) (pairs f.blocks) → (StandsAfter (pairs f.blocks) v w → ⊥)
      → IsBefore f.blocks v w
  before v w theirs mine out = stands_before side f.blocks v w apart theirs mine
      (no_later (block f.blocks) (pairs f.blocks) (deciding_quantifier side) (reduced_quantifier side) v w (pairs_ascend f.blocks apart)
      theirs mine out)

  reduct_of : (from to : List Literal) → IsReduction side f from to → IsReduct side f.blocks from to
  reduct_of from to is = record {
    within = λ l h. ((is.rest l).0 h).0;
    each = λ l h. elim (same_or_not l is.literal) [
      | inr ne ↦ inl ((is.rest l).1 (h, ne))
      | inl e ↦ inr (subst (λ z. IsReducible side f.blocks from z) (sym e) (
        in_binds (pairs f.blocks) (reduced_quantifier side) is.literal.var apart is.quantifier,
        λ m k b. let theirs = binds_in (pairs f.blocks) (deciding_quantifier side) m.var b in
            before m.var is.literal.var theirs is.quantifier (is.last m k theirs),
      ))
    ];
  }

  module _ (a b to : List Literal) (clean_a : IsClean a) (clean_b : IsClean b) (clean_to : IsClean to) (is : IsResolution side f a b to) where
    -- the two do not clash elsewhere, or `to` would not be clean
    only_there : (l : Literal) → l ∈ a → negated l ∈ b → l.var ≡ is.literal.var
    only_there l h k = elim (cases_eq l.var is.literal.var) [
      | inl e ↦ e
      | inr ne ↦ absurd (clean_to l
          ((is.rest l).1 (inl (h, λ e. ne (ap var_of e))))
          ((is.rest (negated l)).1 (inr (k, λ e. ne (ap var_of e)))))
    ]

    only_clash : IsOnlyClash a b is.literal.var
    only_clash = record { clashes = clash_at a b is.literal is.in_a is.in_b; only = only }
      where
        only : (v : ℕ) → Clashes a b v → v ≡ is.literal.var
        only v (inl (p, n)) = only_there (positive v) p n
        only v (inr (n, p)) = only_there (negative v) n p

    within : to ⊆ resolvent a b is.literal.var
    within l h = elim ((is.rest l).0 h) [
      | inl w ↦ in_without is.literal.var (a ++ b) l (append_left a b l w.0)
          (λ e. w.1 (only_literal a is.literal clean_a is.in_a l w.0 e))
      | inr w ↦ in_without is.literal.var (a ++ b) l (append_right a b l w.0)
          (λ e. w.1 (only_literal b (negated is.literal) clean_b is.in_b l w.0 e))
    ]

    whole : resolvent a b is.literal.var ⊆ to
    whole l h =
        let w = from_without is.literal.var (a ++ b) l h in
        elim (in_append a b l w.0) [
          | inl k ↦ (is.rest l).1 (inl (k, λ e. w.1 (ap var_of e)))
          | inr k ↦ (is.rest l).1 (inr (k, λ e. w.1 (ap var_of e)))
        ]

    resolution_holds : (by : Rules) → AllHold (unreduced_conditions by side f.blocks a b to)
    resolution_holds by = resolvent_holds by side f a b to is.literal.var only_clash
        (in_binds (pairs f.blocks) (deciding_quantifier side) is.literal.var apart is.quantifier) within whole

-- ---- proofs

pub no_sets : (f : Qbf) → SetsAgree f.blocks []
no_sets f i p e = absurd (cc e)

module _ (by : Rules) (f : Qbf) (steps : List Inference) (result : Outcome) (closed : IsClosed f) (is : IsTextbookProof f steps result) where
  clean_antecedent : (i : ℕ) (s : Inference) → IsInCore steps i → IsAt steps i s → (m : ℕ) → m ∈ s.ants → IsClean (lits_of (take i steps) m)
  clean_antecedent i s core here m h =
      let w = need_of steps i s m here h (is.numbers i s core here m h) in
      subst (λ z. IsClean z) w.3 (is.clean w.0 w.1.below (next core w.1) w.1.at_below)

  step_holds : (i : ℕ) (s : Inference) → IsClean s.lits → (ants : List ℕ) → ((m : ℕ) → m ∈ ants → IsClean (lits_of (take i steps) m))
      → IsTextbookStep (side_of result) f (take i steps) ants s.lits
      → AllHold (unreduced_antecedents by (side_of result) f (take i steps) ants s.lits)
  step_holds i s clean [] clean_ants step = initial_holds by (side_of result) f (take i steps) s.lits (initial_of (side_of result) f s.lits step)
  step_holds i s clean (m ∷ []) clean_ants step =
      let r = reduct_of (side_of result) f closed (lits_of (take i steps) m) s.lits step in (r.within, (r.each, tt))
  step_holds i s clean (m ∷ n ∷ more) clean_ants step =
      resolution_holds (side_of result) f closed (lits_of (take i steps) m) (lits_of (take i steps) n) s.lits
      (clean_ants m (inl refl)) (clean_ants n (inr (inl refl))) clean step by

  follows : (i : ℕ) → IsInCore steps i → FollowsUnreduced by (side_of result) f steps i
  follows i core =
      let at = at_place steps i (core_within steps i core) in
      record {
        step = at.0;
        here = at.1;
        clean = is.clean i at.0 core at.1;
        bound = is.bound i at.0 core at.1;
        numbers = is.numbers i at.0 core at.1;
        all = step_holds i at.0 (is.clean i at.0 core at.1) at.0.ants (clean_antecedent i at.0 core at.1) (is.each i at.0 core at.1);
      }

pub textbook_proofs_are_proofs : TextbookProofsAreProofs
textbook_proofs_are_proofs by f steps result closed is =
    let unreduced : ProvesUnreduced by f [] steps result = record {
      agree = no_sets f;
      position = is.position;
      is_goal = is.is_goal;
      each = follows by f steps result closed is;
    } in
    (unreduced, reduced_parents_keep by f [] steps result unreduced)
