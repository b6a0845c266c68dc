-- One step of the core: its antecedents, and its conditions.
use Rattle.core_walk.proofs.Cited.{◌≡◌, ℕ, ◌<◌, ◌≤◌, List, [], ◌∷◌, Option, Some, None, inl, inr, refl, sym, ap, subst, ◌∙◌, arith}
use Rattle.core_walk.proofs.Cited.{at_place, take, rules, IfOk, IfSome, Result, Literal, ◌∈◌, ◌⊆◌, Block, AreBound, IsBound, Qbf, Side}
use Rattle.core_walk.proofs.Cited.{IsClean, bound_each, Inference, IsAt, RuleFault, IsFaultOf, Rules, IsNumberOf, StepFollows, lits_of}
use Rattle.core_walk.proofs.Cited.{step_conditions, IsInCore, next, premise_conditions, reduct_answer, resolvent_answer, same_self, in_take}
use Rattle.core_walk.proofs.Cited.{take_in, common_steps}
use Rattle.std.specs.Prelude.{Bool, IsTrue}
use Rattle.qbf_core.specs.Literal.{positive}
use Rattle.qbf_core.specs.Rules.{IsTautology}
use Rattle.std.proofs.Common.{◌+◌, below_more}
use Rattle.qbf_core.specs.Sets.{HasMembersOf}
use Rattle.qrp_rules.specs.declared.fault.RuleFault.TheVariants.{S1, S2, S3}
use Rattle.qrp_rules.specs.Conditions.{AllHold, Condition}
use Rattle.written_steps.specs.Accepted.{IsAcceptedBy, IsFit}
use Rattle.qbf_core.proofs.Bound.{bound_within}
use Rattle.qbf_core.proofs.Order.{clean_within}
use Rattle.core_walk.specs.DistinctLits.{HasMembersAt}
use Rattle.core_walk.specs.Earlier.{FindsEarlier, StandsEarlier}
use Rattle.core_walk.specs.Followed.{IsAnswerAt}
use Rattle.std.specs.Prelude.{Ok, Err}
use Rattle.core_walk.specs.Premises.{AreFit, ArePremises, IsPremise, found_conditions, written_conditions}
use Rattle.core_walk.specs.declared.premises.Premises.{Premises}
use Rattle.core_walk.specs.declared.premises.Premises.TheVariants.{Initial, One, Two}
use Rattle.core_walk.proofs.Marking.{core_within}
use Rattle.core_walk.proofs.NamedSteps.{step_named, need_of}
use Rattle.core_walk.proofs.NamedSteps.{one_at}
use Rattle.qrp_rules.proofs.MembersDecide.{initial_answer}
use Rattle.qrp_rules.proofs.FirstFailures.{answer_after}

-- ---- earlier steps

-- literals that have the members of the earlier step are a premise
pub premise_of : (steps : List Inference) (place index number : ℕ) (lits : List Literal)
    → StandsEarlier steps place number index → HasMembersAt steps index lits → IsPremise (take place steps) number lits
premise_of steps place index number lits earlier members =
    let own : IsNumberOf (take place steps) number =
    (earlier.step, take_in steps place index earlier.step earlier.before earlier.here, earlier.named) in
    let s = step_named (take place steps) number own in
    let w = in_take steps place s.0 s.1 in
    let at : IsAt steps index s.0 = subst (λ (k : ℕ). IsAt steps k s.0) (earlier.only w.0 s.0 w.2 s.2) w.2 in
    (own, subst (λ (z : List Literal). HasMembersOf lits z) s.3 (members s.0 at))

module _ (rules : Rules) (side : Side) (f : Qbf) (steps : List Inference) (place : ℕ) (core : IsInCore steps place)
    (follows : (j : ℕ) → j < place → IsInCore steps j → StepFollows rules side f steps j) (step : Inference) (here : IsAt steps place step) where
  -- an antecedent of a step of the core follows itself, so it is clean and bound
  premise_fit : (number : ℕ) (lits : List Literal) → number ∈ step.ants → IsPremise (take place steps) number lits → IsFit f.blocks lits
  premise_fit number lits named_here (own, members) =
      let w = need_of steps place step number here named_here own in
      let done = follows w.0 w.1.before (next core w.1) in
      let lits_in : Inference → List Literal = λ t. t.lits in
      let at : done.step.lits ≡ lits_of (take place steps) number =
      ap lits_in (one_at steps w.0 done.step w.1.below done.here w.1.at_below) ∙ w.3 in
      let within : lits ⊆ done.step.lits = subst (λ (z : List Literal). lits ⊆ z) (sym at) members.0 in
      (clean_within done.step.lits lits done.all.0 within, bound_within f.blocks done.step.lits lits done.all.1.0 within)

  pub premises_fit : (found : Option Premises) → ArePremises (take place steps) step.ants found → IfSome found (AreFit f.blocks)
  premises_fit (Some (One from)) (n, e, is) = premise_fit n from.now (subst (λ (ns : List ℕ). n ∈ ns) (sym e) (inl refl)) is
  premises_fit (Some (Two a b)) (m, n, e, is_a, is_b) = (
    premise_fit m a.now (subst (λ (ns : List ℕ). m ∈ ns) (sym e) (inl refl)) is_a,
    premise_fit n b.now (subst (λ (ns : List ℕ). n ∈ ns) (sym e) (inr (inl refl))) is_b,
  )
  premises_fit found are = tt

-- ---- the conditions of a step

with_earlier : (p q earlier : Type 0) (rest : List (Condition RuleFault)) (answer : Option RuleFault) → earlier
    → IsFaultOf ((S1, p) ∷ (S2, q) ∷ rest) answer → IsFaultOf ((S1, p) ∷ (S2, q) ∷ (S3, earlier) ∷ rest) answer
with_earlier p q earlier rest answer e w = search rules

without_earlier : (p q earlier : Type 0) (rest : List (Condition RuleFault)) (answer : Option RuleFault) → (earlier → ⊥)
    → IsFaultOf ((S1, p) ∷ (S2, q) ∷ (S3, ⊥) ∷ []) answer → IsFaultOf ((S1, p) ∷ (S2, q) ∷ (S3, earlier) ∷ rest) answer
without_earlier p q earlier rest answer not all = search rules

after_two : (p q : Type 0) (rest other : List (Condition RuleFault)) (answer : Option RuleFault)
    → ((a : Option RuleFault) → IsFaultOf rest a → IsFaultOf other a)
    → IsFaultOf ((S1, p) ∷ (S2, q) ∷ rest) answer → IsFaultOf ((S1, p) ∷ (S2, q) ∷ other) answer
after_two p q rest other None to (h, (k, all)) = (h, (k, to None all))
after_two p q rest other (Some fault) to (inl out) = inl out
after_two p q rest other (Some fault) to (inr (h, inl out)) = inr (h, inl out)
after_two p q rest other (Some fault) to (inr (h, inr (k, first))) = inr (h, inr (k, to (Some fault) first))

-- from the antecedents that were found to the numbers of the step
from_found : (rules : Rules) (side : Side) (f : Qbf) (before : List Inference) (step : Inference) (found : Option Premises)
    (answer : Option RuleFault)
    → ArePremises before step.ants found → IsFaultOf (found_conditions rules side f found step.lits) answer
    → IsFaultOf (step_conditions rules side f before step) answer
from_found rules side f before step None answer not a = search (rules, without_earlier)
from_found rules side f before step (Some Initial) answer none a = grind (arith, common_steps)
from_found rules side f before step (Some (One from)) answer (m, e, (own, is)) a =
    grind (arith, common_steps, with_earlier, after_two, reduct_answer, same_self)
from_found rules side f before step (Some (Two x y)) answer (m, k, e, (own_x, is_x), (own_y, is_y)) a =
    grind (arith, common_steps, with_earlier, after_two, resolvent_answer, same_self)

pub found_answer : (rules : Rules) (side : Side) (f : Qbf) (before : List Inference) (step : Inference) (found : Option Premises)
    (lits : List Literal) (answer : Option RuleFault) → lits ≡ step.lits → ArePremises before step.ants found
    → IsFaultOf (found_conditions rules side f found lits) answer → IsFaultOf (step_conditions rules side f before step) answer
found_answer rules side f before step found lits answer same are a = grind (arith, common_steps, from_found)

-- the answer for a step of which the antecedents were found
pub step_answer : {E : Type 0} (rules : Rules) (side : Side) (f : Qbf) (steps : List Inference) (place : ℕ) (found : Option Premises)
    (lits : List Literal) (r : Result (Option RuleFault) E) → ((step : Inference) → IsAt steps place step → lits ≡ step.lits)
    → ((step : Inference) → IsAt steps place step → ArePremises (take place steps) step.ants found)
    → IfOk r (IsFaultOf (found_conditions rules side f found lits)) → IfOk r (IsAnswerAt rules side f steps place)
step_answer rules side f steps place found lits (Ok answer) own are a = λ step here.
    found_answer rules side f (take place steps) step found lits answer (own step here) (are step here) a
step_answer rules side f steps place found lits (Err e) own are a = tt

-- a step that follows, after those before it
pub followed_here : (rules : Rules) (side : Side) (f : Qbf) (steps : List Inference) (place : ℕ)
    → ((j : ℕ) → j < place → IsInCore steps j → StepFollows rules side f steps j) → IsAnswerAt rules side f steps place None
    → (j : ℕ) → j < place + 1 → IsInCore steps j → StepFollows rules side f steps j
followed_here rules side f steps place before all =
    below_more (λ (j : ℕ). IsInCore steps j → StepFollows rules side f steps j) place before (λ core.
    let s = at_place steps place (core_within steps place core) in
    record { step = s.0; here = s.1; all = all s.0 s.1 })

-- a set in the place of the literals
premise_answer : (rules : Rules) (side : Side) (f : Qbf) (premises : Premises) (set lits : List Literal) (answer : Option RuleFault)
    → HasMembersOf set lits → IsFaultOf (premise_conditions rules side f premises set) answer
    → IsFaultOf (premise_conditions rules side f premises lits) answer
premise_answer rules side f premises set lits answer same a =
    grind (arith, common_steps, initial_answer, reduct_answer, same_self, resolvent_answer)

pub set_answer : (rules : Rules) (side : Side) (f : Qbf) (premises : Premises) (set lits : List Literal) (answer : Option RuleFault)
    → HasMembersOf set lits → IsFit f.blocks lits → IsFaultOf (premise_conditions rules side f premises set) answer
    → IsFaultOf (written_conditions rules side f premises lits) answer
set_answer rules side f premises set lits answer same fit a = search (rules, answer_after, premise_answer)

pub not_tautology : (lits : List Literal) → IsClean lits → IsTautology lits → ⊥
not_tautology lits clean (v, p, n) = clean (positive v) p n

pub none_unbound : (blocks : List Block) (lits : List Literal) → AreBound blocks lits
    → (l : Literal) × (l ∈ lits) × (IsBound blocks l.var → ⊥) → ⊥
none_unbound blocks lits bound (l, h, free) = free (bound_each blocks lits bound l h)

pub not_clean : (rules : Rules) (side : Side) (f : Qbf) (found : Option Premises) (lits : List Literal) → IsTautology lits
    → IsFaultOf (found_conditions rules side f found lits) (Some S1)
not_clean rules side f found lits h = grind (arith, common_steps)

pub not_all_bound : (rules : Rules) (side : Side) (f : Qbf) (found : Option Premises) (lits : List Literal) → IsClean lits
    → (l : Literal) × (l ∈ lits) × (IsBound f.blocks l.var → ⊥) → IsFaultOf (found_conditions rules side f found lits) (Some S2)
not_all_bound rules side f found lits clean l = grind (arith, common_steps, bound_each)

pub accepted_all : {E : Type 0} (r : Result Bool E) (conditions : List (Condition RuleFault)) (blocks : List Block) (lits : List Literal)
    → IfOk r (IsAcceptedBy conditions blocks lits) → IfOk r (λ t. IsTrue t → IsClean lits × (AreBound blocks lits × AllHold conditions))
accepted_all r conditions blocks lits is = search rules

-- the number of an antecedent that is not an earlier step
pub not_earlier : (steps : List Inference) (place : ℕ) (ants numbers : List ℕ) (n : ℕ) → ants ≡ numbers → n ∈ numbers
    → FindsEarlier steps place n None
    → ((m : ℕ) → m ∈ ants → IsNumberOf (take place steps) m) → ⊥
not_earlier steps place ants numbers n e h none all = grind (arith, common_steps, in_take)
