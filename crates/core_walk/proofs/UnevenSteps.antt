-- Steps that follow from a part of an antecedent, and parts that are kept.
use Rattle.core_walk.proofs.Cited.{◌≡◌, ℕ, List, [], ◌∷◌, ◌⊎◌, inl, inr, sym, subst, ◌∙◌, take}
use Rattle.core_walk.proofs.Cited.{Literal, ◌∈◌, ◌⊆◌, Block, Qbf, Side, Inference, IsAt, Rules, in_take, numbers, nat_eq}
use Rattle.core_walk.proofs.Cited.{own_numbers}
use Rattle.core_walk.proofs.Cited.{Ok, Err, Result}
use Rattle.std.specs.Prelude.{⊤, OnOk}
use Rattle.core_walk.proofs.Cited.{◌+◌, IsInCore, StepFollows}
use Rattle.std.proofs.Common.{below_more}
use Rattle.core_walk.specs.Followed.{IsFollowed}
use Rattle.core_walk.specs.declared.following.WalkState.{WalkState}
use Rattle.std.specs.List.{IsDistinct}
use Rattle.qbf_core.specs.Rules.{reduced_quantifier}
use Rattle.qbf_core.specs.Sets.{HasMembersOf}
use Rattle.qbf_core.proofs.Bound.{bound_within}
use Rattle.qbf_core.proofs.Order.{clean_within}
use Rattle.written_steps.specs.Accepted.{IsFit}
use Rattle.written_steps.specs.Parts.{AreParts, IsPart}
use Rattle.written_steps.specs.declared.parts.Part.{Part}
use Rattle.written_steps.specs.declared.parts.Parts.{Parts}
use Rattle.core_walk.specs.Premises.{IsPremise}
use Rattle.core_walk.specs.Uneven.{ArePartsOf}
use Rattle.core_walk.proofs.NamedSteps.{step_named}
use Rattle.core_walk.proofs.NamedSteps.{one_at}

-- parts of a list are parts of each list with its members
same_parts : (side : Side) (blocks : List Block) (kept : Parts) (n m : ℕ) (from to : List Literal) → n ≡ m → HasMembersOf to from
    → AreParts side blocks kept n from → AreParts side blocks kept m to
same_parts side blocks kept n m from to e same are = λ part h named.
    let is = are part h (named ∙ sym e) in record { within = λ l k. same.1 l (is.within l k); each = λ l k. is.each l (same.0 l k) }

-- the step that is a premise
module _ (steps : List Inference) (i n : ℕ) (lits : List Literal) (premise : IsPremise (take i steps) n lits) where
  own_step : (j : ℕ) × (s : Inference) × IsAt steps j s × (s.number ≡ n) × HasMembersOf lits s.lits
  own_step =
      let s = step_named (take i steps) n premise.0 in
      let w = in_take steps i s.0 s.1 in
      (w.0, s.0, w.2, s.2, subst (λ (z : List Literal). HasMembersOf lits z) (sym s.3) premise.1)

  pub premise_parts : (side : Side) (blocks : List Block) (kept : Parts) → ArePartsOf side blocks steps kept
      → AreParts side blocks kept n lits
  premise_parts side blocks kept are =
      let w = own_step in same_parts side blocks kept w.1.number n w.1.lits lits w.3 w.4 (are w.0 w.1 w.2)

  -- the parts of one premise more
  pub parts_more : (side : Side) (blocks : List Block) (old new : Parts) → IsDistinct nat_eq (numbers steps)
      → ((part : Part) → part ∈ new.parts.items → (part ∈ old.parts.items) ⊎ ((part.number ≡ n)
      × IsPart blocks (reduced_quantifier side) part.reach lits part.lits.items))
      → ArePartsOf side blocks steps old → ArePartsOf side blocks steps new
  parts_more side blocks old new distinct more are = λ j s here part h named. elim (more part h) [
    | inl k ↦ are j s here part k named
    | inr (e, is) ↦
        let w = own_step in
        let place : w.0 ≡ j = own_numbers steps distinct w.0 j w.1 s w.2 here (w.3 ∙ sym e ∙ named) in
        let at : IsAt steps j w.1 = subst (λ (k : ℕ). IsAt steps k w.1) place w.2 in
        let same : w.1 ≡ s = one_at steps j w.1 s at here in
        let members : HasMembersOf lits s.lits = subst (λ (t : Inference). HasMembersOf lits t.lits) same w.4 in
        record { within = λ l k. members.0 l (is.within l k); each = λ l k. is.each l (members.1 l k) }
  ]

  pub kept_after : {E : Type 0} (side : Side) (blocks : List Block) (old new : Parts) (r : Result ⊤ E) → IsDistinct nat_eq (numbers steps)
      → OnOk r ((part : Part) → part ∈ new.parts.items → (part ∈ old.parts.items) ⊎ ((part.number ≡ n)
      × IsPart blocks (reduced_quantifier side) part.reach lits part.lits.items))
      → ArePartsOf side blocks steps old → OnOk r (ArePartsOf side blocks steps new)
  kept_after side blocks old new (Ok u) distinct more are = parts_more side blocks old new distinct more are
  kept_after side blocks old new (Err e) distinct more are = tt

-- literals within others that are fit
pub fit_within : (blocks : List Block) (whole part : List Literal) → part ⊆ whole → IsFit blocks whole → IsFit blocks part
fit_within blocks whole part within fit = (clean_within whole part fit.0 within, bound_within blocks whole part fit.1 within)

pub none_kept : (side : Side) (blocks : List Block) (steps : List Inference) (kept : Parts) → kept.parts.items ≡ []
    → ArePartsOf side blocks steps kept
none_kept side blocks steps kept none = λ i s here part h named. absurd (subst (λ (ps : List Part). part ∈ ps) none h)

-- ---- the premises of a step by the numbers of its antecedents

pub premise_one : (before : List Inference) (only : ℕ) (lits : List Literal)
    → (n : ℕ) × (only ∷ [] ≡ n ∷ []) × IsPremise before n lits → IsPremise before only lits
premise_one before only lits (n, e, is) = let same : only ≡ n = cc e in subst (λ (k : ℕ). IsPremise before k lits) (sym same) is

pub premises_two : (before : List Inference) (first second : ℕ) (a b : List Literal)
    → (m : ℕ) × (n : ℕ) × (first ∷ second ∷ [] ≡ m ∷ n ∷ []) × IsPremise before m a × IsPremise before n b
    → IsPremise before first a × IsPremise before second b
premises_two before first second a b (m, n, e, is_a, is_b) =
    let same : first ≡ m = cc e in
    let other : second ≡ n = cc e in
    (subst (λ (k : ℕ). IsPremise before k a) (sym same) is_a, subst (λ (k : ℕ). IsPremise before k b) (sym other) is_b)

-- ---- a step that is not of the core is passed

pub passed_over : (rules : Rules) (side : Side) (f : Qbf) (steps : List Inference) (i : ℕ) (state : WalkState) → (IsInCore steps i → ⊥)
    → IsFollowed rules side f steps i state → IsFollowed rules side f steps (i + 1) state
passed_over rules side f steps i state out is = record {
  follows = below_more (λ (j : ℕ). IsInCore steps j → StepFollows rules side f steps j) i is.follows (λ core. absurd (out core));
  known = is.known;
  parts = is.parts;
  kept = is.kept;
}
