-- A trace has one verdict.
use Rattle.trace_check.proofs.Cited.{common_steps, arith, ◌≡◌, ◌⊎◌, ℕ, List, Some, inl, inr, sym, ap, ◌∙◌, subst, rules, cases_order}
use Rattle.trace_check.proofs.Cited.{Block, Qbf, Side, Outcome, Inference, CheckFault, C4, C6, RuleFault, Rules, IsInCore}
use Rattle.trace_check.proofs.Cited.{IsGoal, goal, next, SetsAgree, Proves, IsFirstFault, side_of, no_fault, one_fault}
use Rattle.std.proofs.Common.{slice_get}
use Rattle.core_walk.specs.Conditions.{IsStepFault}
use Rattle.trace_check.specs.Sets.{IsSetFault}
use Rattle.core_walk.specs.Faulty.{IsFirstFaultyStep}
use Rattle.trace_check.specs.Laws.{VerdictIsOne}
use Rattle.trace_check.proofs.StepFaults.{faults_exclude}

sets_exclude : (blocks sets : List Block) (fault : CheckFault) → SetsAgree blocks sets → IsSetFault blocks sets fault → ⊥
sets_exclude blocks sets fault agree fails = search (rules, no_fault)

sets_once : (blocks sets : List Block) (a b : CheckFault) → IsSetFault blocks sets a → IsSetFault blocks sets b → a ≡ b
sets_once blocks sets a b x y = search (rules, cases_order, one_fault, no_fault)

steps_once : (rules : Rules) (side : Side) (f : Qbf) (steps : List Inference) (m n : ℕ) (a b : RuleFault)
    → IsFirstFaultyStep rules side f steps m a → IsFirstFaultyStep rules side f steps n b → (m ≡ n) × (a ≡ b)
steps_once rules side f steps m n a b x y = elim (cases_order x.position y.position) [
  | inl e ↦ (
      let moved : IsStepFault rules side f steps x.position b = subst (λ i. IsStepFault rules side f steps i b) (sym e) y.fails in
      let there : slice_get steps x.position ≡ Some y.fails.step =
      subst (λ i. slice_get steps i ≡ Some y.fails.step) (sym e) y.fails.here in
      let same : x.fails.step ≡ y.fails.step = cc (there, x.fails.here) in
      let g : Inference → ℕ = λ s. s.number in
      (sym x.numbered ∙ ap g same ∙ y.numbered, (faults_exclude rules side f steps x.position a b).1 x.fails moved)
      )
  | inr either ↦ elim either [
    | inl before ↦ absurd ((faults_exclude rules side f steps x.position a a).0 (y.earlier x.position before x.needed) x.fails)
    | inr after ↦ absurd ((faults_exclude rules side f steps y.position b b).0 (x.earlier y.position after y.needed) y.fails)
  ]
]

goal_of : (side : Side) (f : Qbf) (steps : List Inference) {i : ℕ} → IsInCore steps i → (j : ℕ) × IsGoal steps j
goal_of side f steps (goal {i = i} is) = (i, is)
goal_of side f steps (next core needs) = goal_of side f steps core

-- there is no goal, or a step of the core fails
abbrev IsLater : Rules → Qbf → List Inference → Outcome → CheckFault → Type 0
IsLater rules f steps result a =
    ((a ≡ C4) × ((i : ℕ) → IsGoal steps i → ⊥))
    ⊎ ((n : ℕ) × (e : RuleFault) × (a ≡ C6 n e) × IsFirstFaultyStep rules (side_of result) f steps n e)

-- a fault is one of the sets, or these agree
cause : (rules : Rules) (f : Qbf) (sets : List Block) (steps : List Inference) (result : Outcome) (a : CheckFault)
    → IsFirstFault rules f sets steps result a → IsSetFault f.blocks sets a ⊎ (SetsAgree f.blocks sets × IsLater rules f steps result a)
cause rules f sets steps result a fails = grind (arith, common_steps)

proves_exclude : (rules : Rules) (f : Qbf) (sets : List Block) (steps : List Inference) (result : Outcome) (a : CheckFault)
    → Proves rules f sets steps result → IsFirstFault rules f sets steps result a → ⊥
proves_exclude rules f sets steps result a proof fails = elim (cause rules f sets steps result a fails) [
  | inl set ↦ sets_exclude f.blocks sets a proof.agree set
  | inr (_, inl (_, none)) ↦ none proof.derives.position proof.derives.is_goal
  | inr (_, inr (n, e, _, first)) ↦ (faults_exclude rules (side_of result) f steps first.position e e).0
      (proof.derives.each first.position first.needed) first.fails
]

later_once : (rules : Rules) (f : Qbf) (steps : List Inference) (result : Outcome) (a b : CheckFault) → IsLater rules f steps result a
    → IsLater rules f steps result b → a ≡ b
later_once rules f steps result a b (inl (p, _)) (inl (q, _)) = p ∙ sym q
later_once rules f steps result a b (inl (_, none)) (inr (n, e, _, y)) =
    absurd (let g = goal_of (side_of result) f steps y.needed in none g.0 g.1)
later_once rules f steps result a b (inr (n, e, _, x)) (inl (_, none)) =
    absurd (let g = goal_of (side_of result) f steps x.needed in none g.0 g.1)
later_once rules f steps result a b (inr (n, e, p, x)) (inr (m, d, q, y)) =
    let w = steps_once rules (side_of result) f steps n m e d x y in
    let by_number : ℕ → CheckFault = λ k. C6 k e in
    let by_fault : RuleFault → CheckFault = λ r. C6 m r in
    p ∙ ap by_number w.0 ∙ ap by_fault w.1 ∙ sym q

fault_once : (rules : Rules) (f : Qbf) (sets : List Block) (steps : List Inference) (result : Outcome) (a b : CheckFault)
    → IsFirstFault rules f sets steps result a → IsFirstFault rules f sets steps result b → a ≡ b
fault_once rules f sets steps result a b x y = by (cause rules f sets steps result a x) (cause rules f sets steps result b y)
  where
    by : IsSetFault f.blocks sets a ⊎ (SetsAgree f.blocks sets × IsLater rules f steps result a)
        → IsSetFault f.blocks sets b ⊎ (SetsAgree f.blocks sets × IsLater rules f steps result b) → a ≡ b
    by (inl p) (inl q) = sets_once f.blocks sets a b p q
    by (inl p) (inr q) = absurd (sets_exclude f.blocks sets a q.0 p)
    by (inr p) (inl q) = absurd (sets_exclude f.blocks sets b p.0 q)
    by (inr p) (inr q) = later_once rules f steps result a b p.1 q.1

pub verdict_is_one : VerdictIsOne
verdict_is_one rules f sets steps result a b = (proves_exclude rules f sets steps result a, fault_once rules f sets steps result a b)
