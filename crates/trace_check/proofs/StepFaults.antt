-- The rows of a step: one fault at most, and none if the step follows.
use Rattle.trace_check.proofs.Cited.{subst, ◌≡◌, take, step_conditions, IsFirstFailure, no_fault, one_fault}
use Rattle.trace_check.specs.Laws.{StepFaultsExclude}

pub faults_exclude : StepFaultsExclude
faults_exclude rules side f steps i a b = (
  λ follows fails.
      let same : fails.step ≡ follows.step = cc (follows.here, fails.here) in
      no_fault (step_conditions rules side f (take i steps) follows.step) a follows.all
      (subst (λ s. IsFirstFailure (step_conditions rules side f (take i steps) s) a) same fails.first),
  λ fails also.
      let same : also.step ≡ fails.step = cc (fails.here, also.here) in
      one_fault (step_conditions rules side f (take i steps) fails.step) a b fails.first
      (subst (λ s. IsFirstFailure (step_conditions rules side f (take i steps) s) b) same also.first),
)
