-- From a derivation of the empty set to a trace, its text, and its verdict.
use Rattle.trace_check.proofs.Cited.{◌≡◌, ℕ, ◌+◌, ◌<◌, ◌≤◌, List, [], ◌∷◌, ◌++◌, inl, inr, refl, sym, subst, length, arith, Ok, Result, AllByRecursion, Literal, ◌∈◌, AreBound, bound_each, pairs, Qbf, Rules, Inference, IsGoal, Derivation, Outcome, at_place, slice_get_within}
use Rattle.trace_check.specs.Proof.{side_of, Proves}
use Rattle.std.proofs.Common.{◌^◌, length-append}
use Rattle.qbf_core.specs.Blocks.{IsVariable, variables}
use Rattle.qbf_core.specs.Qbf.{IsWellFormed as IsWellFormedFormula}
use Rattle.qbf_core.specs.Truth.{ResultHolds}
use Rattle.qbf_core.proofs.Bound.{all_in, in_all, bound_in, pair_var}
use Rattle.lists.proofs.PushedItems.{pushed_new}
use Rattle.qbf_tokens.specs.declared.token.Comments.TheVariants.{Qdimacs}
use Rattle.qbf_tokens.specs.Lined.{without_lines}
use Rattle.qbf_tokens.specs.Tokens.{tokens}
use Rattle.qdimacs.specs.Grammar.{IsFormula}
use Rattle.qdimacs.specs.Reading.{read_formula}
use Rattle.trace_items.specs.Derivations.{AreGrammatical, IsWellFormed}
use Rattle.trace_items.specs.Inferences.{IsInference, IsLiteral}
use Rattle.qrp.specs.Grammar.{text}
use Rattle.qrp.proofs.ReadingLaws.{text_is_read}
use Rattle.qrp_check.specs.Headline.{IsShown, Headline}
use Rattle.qrp_check.proofs.HeadlineOfVerdict.{formula_spelled, trace_spelled}
use Rattle.trace_check.specs.Unreduced.{ProvesUnreduced}
use Rattle.qrp_check.specs.Verdict.{IsOutOfMemory, IsFormulaDevice, IsTraceDevice}
use Rattle.trace_check.specs.declared.verified.Verified.{Verified}
use Rattle.qrp_check.specs.declared.verdict.Fault.{Fault}
use Rattle.std.specs.Prelude.{IsOk, ◌⊎◌}
use Rattle.trace_check.proofs.CheckAnswers.{closed_of}
use Rattle.core_walk.proofs.Marking.{core_within}
use Rattle.trace_check.proofs.StepsAt.{holds_number}
use Rattle.trace_check.proofs.Soundness.{soundness}
use Rattle.trace_check.proofs.WiderRules.{reduced_parents_keep}
use Rattle.qbf_completeness.specs.Laws.{step_limit}
use Rattle.qbf_completeness.proofs.Deriving.{completeness}
use Rattle.qrp_completeness.specs.Laws.{EachResultHasAProof, ResultsAreProofs, HasTrace, SmallResultsHaveTraces, SmallFormulasAreVerified}
use Rattle.qrp_completeness.proofs.TextbookSteps.{no_sets}
use Rattle.qrp_completeness.proofs.Writing.{Written, write, nothing_written}

-- ---- the steps, and what they are

goal_here : (front : List Inference) (last : Inference) → last.lits ≡ [] → IsGoal (front ++ last ∷ []) (length front)
goal_here front last empty = record {
  step = last;
  here = pushed_new front last;
  empty = empty;
  last = λ j other at none. omega (arith, slice_get_within (front ++ last ∷ []) j other at, length-append front (last ∷ []));
}

module _ (f : Qbf) (result : Outcome) (n : ℕ) (w : Written (side_of result) f [] [] n) where
  abbrev pub steps : List Inference
  steps = w.front ++ w.last ∷ []

  unreduced : (by : Rules) → ProvesUnreduced by f [] steps result
  unreduced by = record {
    agree = no_sets f;
    position = length w.front;
    is_goal = goal_here w.front w.last w.of_last;
    each = λ i core. let at = at_place steps i (core_within steps i core) in w.sound.follows by i at.0 at.1;
  }

  proved : (by : Rules) → Proves by f [] steps result
  proved by = reduced_parents_keep by f [] steps result (unreduced by)

  module _ (formed : IsWellFormedFormula f) where
    in_range : (lits : List Literal) → AreBound f.blocks lits → AllByRecursion IsLiteral lits
    in_range lits bound = in_all IsLiteral lits (λ l h.
        let w = bound_in (pairs f.blocks) l.var (bound_each f.blocks lits bound l h) in
        all_in IsVariable (variables (pairs f.blocks)) formed.prefix.within l.var (pair_var (pairs f.blocks) w.0 l.var w.1))

    grammatical : AreGrammatical [] steps
    grammatical = record {
      variables = tt;
      inferences = in_all IsInference steps (λ s h. let p = (w.sound.plain s h).0 in record {
        number = p.from;
        lits = in_range s.lits p.bound;
        ants = in_all (λ n. 1 ≤ n) s.ants (λ n h. (p.ants n h).0);
        few = p.few;
      });
      distinct = w.sound.distinct;
    }

    -- with numbers of 64 bits
    trace : Derivation
    trace = record {
      header = record { vars = f.max_var; steps = length steps };
      sets = [];
      steps = steps;
      result = result;
    }

    fits : length steps < 2 ^ 64 → IsWellFormed trace
    unfolding trace
    fits few = record {
      grammatical = grammatical;
      fits = record {
        vars = let top : f.max_var ≤ 2147483647 = formed.numbers in omega (arith, top);
        steps = few;
        numbers_fit = holds_number (λ n. n < 2 ^ 64) steps (in_all (λ s. s.number < 2 ^ 64) steps below);
        ants_fit = in_all (λ s. AllByRecursion (λ n. n < 2 ^ 64) s.ants) steps (λ s h. in_all (λ n. n < 2 ^ 64) s.ants (λ n k.
            let less : n < s.number = ((w.sound.plain s h).0.ants n k).1 in omega (arith, less, below s h)));
        count = few;
      };
    }
      where
        below : (s : Inference) → s ∈ steps → s.number < 2 ^ 64
        below s h = omega (arith, (w.sound.plain s h).1, few)

    pub with_trace : length steps < 2 ^ 64 → HasTrace f result
    unfolding trace
    with_trace few = record {
      trace = trace;
      states = refl;
      well_formed = fits few;
      reads = text_is_read trace (fits few);
      proves = proved;
    }

-- ---- the laws

-- the derivation, as steps
written : (f : Qbf) (result : Outcome) → IsWellFormedFormula f → ResultHolds (side_of result) f
    → (n : ℕ) × (n < step_limit (side_of result) f) × Written (side_of result) f [] [] n
written f result formed holds =
    let w = completeness f (side_of result) (closed_of f formed) holds in
    (w.0, w.1, write (side_of result) f w.2 [] (nothing_written (side_of result) f))

pub each_result_has_a_proof : EachResultHasAProof
each_result_has_a_proof f result formed holds =
    let t = written f result formed holds in
    let count : length (steps f result t.0 t.2) ≡ 0 + t.0 = t.2.count in
    record {
      steps = steps f result t.0 t.2;
      grammatical = grammatical f result t.0 t.2 formed;
      few = omega (arith, count, t.1);
      unreduced = unreduced f result t.0 t.2;
      proves = proved f result t.0 t.2;
    }

pub results_are_proofs : ResultsAreProofs
results_are_proofs by f result formed = (
  (λ holds. let w = each_result_has_a_proof f result formed holds in (w.steps, w.proves by)),
  (λ w. soundness by f [] w.0 result (closed_of f formed) w.1),
)

pub small_results_have_traces : SmallResultsHaveTraces
small_results_have_traces f result formed small holds =
    let t = written f result formed holds in
    let count : length (steps f result t.0 t.2) ≡ 0 + t.0 = t.2.count in
    with_trace f result t.0 t.2 formed (omega (arith, count, t.1, small))

-- ---- bytes

bytes_shown : (formula : List ℕ) (f : Qbf) → IsFormula (without_lines (tokens Qdimacs formula)) f → (result : Outcome) → (w : HasTrace f result)
    → (by : Rules) → IsShown by formula (text w.trace)
bytes_shown formula f spelled result w by = record {
  f = f;
  d = w.trace;
  spelled = record { formula_spelled = spelled; trace_spelled = trace_spelled (text w.trace) w.trace w.reads };
  proves = w.proves by;
}

pub small_formulas_are_verified : SmallFormulasAreVerified
small_formulas_are_verified formula f result is small holds =
    let spelled = formula_spelled formula f is in
    let w = small_results_have_traces f result spelled.well_formed small holds in (
      text w.trace,
      λ by. let shown = bytes_shown formula f spelled result w by in (shown, λ answer headline. headline.wherever shown),
    )

-- if no device fails
pub verified_or_memory : (by : Rules) (formula trace from_formula from_trace : List ℕ) (result : Result Verified Fault) (f : Qbf) (o : Outcome)
    (has : HasTrace f o)
    → from_formula ≡ formula → from_trace ≡ trace → read_formula formula ≡ Ok f → trace ≡ text has.trace
    → Headline by from_formula from_trace result
    → (IsFormulaDevice result → ⊥) → (IsTraceDevice result → ⊥) → IsOk result ⊎ IsOutOfMemory result
verified_or_memory by formula trace from_formula from_trace result f o has same_formula same_trace is e headline no_formula no_trace =
    let at : Headline by formula trace result = subst (λ z. Headline by formula z result) same_trace
    (subst (λ z. Headline by z from_trace result) same_formula headline) in
    let shown : IsShown by formula trace = subst (λ z. IsShown by formula z) (sym e)
    (bytes_shown formula f (formula_spelled formula f is) o has by) in
    elim (at.wherever shown) [
      | inl ok ↦ inl ok
      | inr other ↦ elim other [
        | inl memory ↦ inr memory
        | inr device ↦ elim device [ inl d ↦ absurd (no_formula d) | inr d ↦ absurd (no_trace d) ]
      ]
    ]
