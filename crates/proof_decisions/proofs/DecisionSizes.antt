-- How many gates the decisions of a proof need at most.
use Rattle.trace_check.proofs.Cited.{arith, ◌≡◌, ◌≤◌, ◌∙◌, ℕ, suc, List, [], ◌∷◌, ap, sym, length, take, subst}
use Rattle.std.proofs.Common.{zero, ◌*◌, Bool, true, false, cond, Option, slice_get}
use Rattle.std.proofs.lemmas.List.{length-map}
use Rattle.qbf_core.specs.Blocks.{is_quantifier, variables}
use Rattle.qbf_core.specs.Literal.{Literal}
use Rattle.qbf_core.specs.Qbf.{Qbf}
use Rattle.qbf_core.specs.Rules.{Side, reduced_quantifier}
use Rattle.qbf_core.specs.declared.quantifier.Quantifier.{Quantifier}
use Rattle.qbf_strategy.specs.Computing.{size}
use Rattle.qbf_strategy.specs.Decisions.{Decision, wanted}
use Rattle.qbf_strategy.specs.Winning.{variables_of}
use Rattle.trace_items.specs.Inferences.{Inference}
use Rattle.proof_decisions.specs.ProofDecisions.{AreDecisionsOf, IsDecisionAt}
use Rattle.proof_decisions.specs.Sizes.{core_size, literals_before, step_size}

times_less : (a b c d : ℕ) → a ≤ b → c ≤ d → a * c ≤ b * d
times_less zero b c d ab cd = omega arith
times_less (suc a) zero c d ab cd = absurd (omega (arith, ab))
times_less (suc a) (suc b) c d ab cd = let rest = times_less a b c d (omega (arith, ab)) cd in omega (arith, rest, cd)

module _ (side : Side) (f : Qbf) (steps : List Inference) where
  decision_size : (i : ℕ) (d : Decision) → IsDecisionAt side f steps i d
      → suc (length d.sets * suc (length d.when)) ≤ step_size side f (take i steps) (slice_get steps i)
  decision_size i d is =
      let of = is.decision in
      let q = reduced_quantifier side in
      let sets : length d.sets ≡ length of.removed = ap (λ (ls : List Literal). length ls) of.sets ∙ length-map of.removed (wanted q) in
      let when : length d.when ≡ length of.kept = ap (λ (ls : List Literal). length ls) of.when ∙ length-map of.kept (wanted q) in
      let few = of.few_removed in
      let kept = of.few_kept in
      let product = times_less (length d.sets) (literals_before side f (take i steps) is.step.ants is.step.lits) (suc (length d.when))
      (suc (length is.step.lits)) (omega (arith, sets, few)) (omega (arith, when, kept)) in
      subst (λ (x : Option Inference). suc (length d.sets * suc (length d.when)) ≤ step_size side f (take i steps) x) (sym is.here)
      (omega (arith, product))

  pub decisions_size : (core : List ℕ) (ds : List Decision) → AreDecisionsOf side f steps core ds → size ds ≤ core_size side f steps core
  decisions_size [] [] are = omega arith
  decisions_size [] (d ∷ ds) are = absurd are
  decisions_size (i ∷ core) [] are = absurd are
  decisions_size (i ∷ core) (d ∷ ds) are =
      let here = decision_size i d are.0 in let rest = decisions_size core ds are.1 in omega (arith, here, rest)

pub some_variables : (q : Quantifier) (ps : List (Quantifier × ℕ)) → length (variables_of q ps) ≤ length (variables ps)
some_variables q [] = omega arith
some_variables q ((p, v) ∷ ps) = by (is_quantifier p q) (some_variables q ps)
  where
    by : (b : Bool) → length (variables_of q ps) ≤ length (variables ps)
        → length (cond b (v ∷ variables_of q ps) (variables_of q ps)) ≤ suc (length (variables ps))
    by true rest = omega (arith, rest)
    by false rest = omega (arith, rest)
