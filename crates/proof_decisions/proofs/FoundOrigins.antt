-- What a step of a proof comes from is found.
use Rattle.trace_check.proofs.Cited.{◌≡◌, ◌<◌, ◌∙◌, ℕ, List, [], ◌∷◌, Option, Some, None, inl, inr, refl, sym, subst, take, length, slice_get}
use Rattle.trace_check.proofs.Cited.{Literal, ◌∈◌, Qbf, Side, Clauses, Cubes, Clashes, Inference, IsAt, Rules, IsNumberOf, lits_of}
use Rattle.trace_check.proofs.Cited.{AllHold, StepFollows, antecedent_conditions, step_conditions, initial_condition, in_take, take_in, slice_get_within}
use Rattle.trace_check.proofs.Cited.{Result, IfOk, IfSome, Quantifier}
use Rattle.qbf_core.proofs.Members.{got_in, in_got, lit_is}
use Rattle.qbf_core.specs.Literal.{negated, positive, negative}
use Rattle.qbf_core.specs.Rules.{reduced_quantifier}
use Rattle.qbf_core.specs.declared.quantifier.Quantifier.TheVariants.{All, Exists}
use Rattle.core_walk.proofs.NamedSteps.{step_named}
use Rattle.core_walk.specs.Earlier.{StandsEarlier}
use Rattle.written_steps.specs.Accepted.{IsFit}
use Rattle.qrp_rules.specs.Reducts.{IsReductAt}
use Rattle.written_steps.specs.Seen.{Has, Members}
use Rattle.std.specs.Borrow.{Bor}
use Rattle.std.specs.Prelude.{IfNone}
use Rattle.proof_decisions.specs.Removing.{HasJust, IsClauseOf, IsInitialOf, IsPivotOf}

-- ---- the pivot

clash_of : (a b : List Literal) (l : Literal) (v : ℕ) → negated l ∈ a → l ∈ b → l.var ≡ v → Clashes a b v
clash_of a b l v h k e = elim (lit_is l v e) [
  | inl is ↦ inr (subst (λ (z : Literal). negated z ∈ a) is h, subst (λ z. z ∈ b) is k)
  | inr is ↦ inl (subst (λ (z : Literal). negated z ∈ a) is h, subst (λ z. z ∈ b) is k)
]

pub pivot_found : (a b : List Literal) (s : Members) (pivot : Option ℕ) → HasJust a s
    → IfSome pivot (λ v. (l : Literal) × (l ∈ b) × Has s (negated l) × (l.var ≡ v))
    → IfNone pivot ((l : Literal) → l ∈ b → Has s (negated l) → ⊥) → IsPivotOf a b pivot
pivot_found a b s (Some v) just (l, k, has, e) none = clash_of a b l v ((just (negated l)).0 has) k e
pivot_found a b s None just found none = λ x clash. elim clash [
  | inl (p, n) ↦ none (negative x) n ((just (positive x)).1 p)
  | inr (n, p) ↦ none (positive x) p ((just (negative x)).1 n)
]

-- ---- antecedents

module _ (steps : List Inference) (position n : ℕ) (found : Option ℕ) (named : IsNumberOf (take position steps) n)
    (only : (i : ℕ) (step : Inference) → IsAt steps i step → step.number ≡ n → found ≡ Some i) where
  earlier_is : (i : ℕ) × (i < position) × (found ≡ Some i) × (s : Inference) × IsAt steps i s × (s.number ≡ n)
  earlier_is =
      let p = in_take steps position named.0 named.1 in
      (p.0, p.1, only p.0 named.0 p.2 named.2, named.0, p.2, named.2)

  pub stands_earlier : (index : ℕ) → found ≡ Some index → StandsEarlier steps position n index
  stands_earlier index is =
      let w = earlier_is in
      let same : w.0 ≡ index = cc (is, w.2) in
      subst (λ k. StandsEarlier steps position n k) same (record {
        before = w.1;
        step = w.3;
        here = w.4;
        named = w.5;
        only = λ j s at number. (let other = only j s at number in cc (other, w.2));
      })

  pub is_found : found ≡ None → ⊥
  is_found none = (let w = earlier_is in cc (none, w.2))

-- the literals of an earlier step are those that its number has
pub earlier_lits : (steps : List Inference) (place index number : ℕ) (lits : List Literal) → StandsEarlier steps place number index
    → ((s : Inference) → IsAt steps index s → lits ≡ s.lits) → lits ≡ lits_of (take place steps) number
earlier_lits steps place index number lits earlier same =
    let own : IsNumberOf (take place steps) number =
    (earlier.step, take_in steps place index earlier.step earlier.before earlier.here, earlier.named) in
    let s = step_named (take place steps) number own in
    let w = in_take steps place s.0 s.1 in
    let at : IsAt steps index s.0 = subst (λ (k : ℕ). IsAt steps k s.0) (earlier.only w.0 s.0 w.2 s.2) w.2 in
    same s.0 at ∙ s.3

-- ---- initial steps

pub clause_there : (f : Qbf) (lits : List Literal) (p : ℕ) → IsReductAt f lits p → p < length f.clauses
clause_there f lits p at = slice_get_within f.clauses p at.clause at.here

pub clause_found : (f : Qbf) (lits from : List Literal) (p : ℕ) → IsReductAt f lits p → slice_get f.clauses p ≡ Some from
    → IsClauseOf f lits from
clause_found f lits from p at here =
    let same : at.clause ≡ from = (let e = at.here in cc (e, here)) in
    subst (λ ls. IsClauseOf f lits ls) same (got_in f.clauses p at.clause at.here, at.clean, at.reduct)

reduct_there : (f : Qbf) (lits : List Literal) → AllHold (initial_condition Clauses f lits ∷ []) → (p : ℕ) × IsReductAt f lits p
reduct_there f lits ((clause, h, clean, reduct), _) =
    let got = in_got f.clauses clause h in
    (got.0, record { clause = clause; here = got.1; clean = clean; reduct = reduct })

-- the side that reduces universal literals is that of clauses
module _ (f : Qbf) (lits : List Literal) where
  pub some_clause : (side : Side) (q : Quantifier) → q ≡ reduced_quantifier side → q ≡ All
      → AllHold (initial_condition side f lits ∷ []) → (p : ℕ) × IsReductAt f lits p
  some_clause Clauses q a b rows = reduct_there f lits rows
  some_clause Cubes q a b rows = absurd (let e : Exists ≡ All = sym a ∙ b in cc e)

  pub of_clauses : {E : Type 0} (side : Side) (q : Quantifier) (r : Result (Bor (List Literal)) E) → q ≡ reduced_quantifier side → q ≡ All
      → IfOk r (λ from. IsClauseOf f lits from.now) → IfOk r (λ from. IsInitialOf side f lits from.now)
  of_clauses Clauses q r a b is = is
  of_clauses Cubes q r a b is = absurd (let e : Exists ≡ All = sym a ∙ b in cc e)

  pub of_cubes : (side : Side) (q : Quantifier) → q ≡ reduced_quantifier side → q ≡ Exists → IsInitialOf side f lits lits
  of_cubes Clauses q a b = absurd (let e : All ≡ Exists = sym a ∙ b in cc e)
  of_cubes Cubes q a b = refl

-- ---- a step of a proof

pub step_rows : (by : Rules) (side : Side) (f : Qbf) (steps : List Inference) (i : ℕ) (ants : List ℕ) (lits : List Literal)
    → StepFollows by side f steps i → ((s : Inference) → IsAt steps i s → ants ≡ s.ants) → ((s : Inference) → IsAt steps i s → lits ≡ s.lits)
    → IsFit f.blocks lits × ((n : ℕ) → n ∈ ants → IsNumberOf (take i steps) n)
    × AllHold (antecedent_conditions by side f (take i steps) ants lits)
step_rows by side f steps i ants lits follows same_ants same_lits =
    rw (same_ants follows.step follows.here, same_lits follows.step follows.here) (of_rows follows.step follows.all)
  where
    of_rows : (s : Inference) → AllHold (step_conditions by side f (take i steps) s) → IsFit f.blocks s.lits
        × ((n : ℕ) → n ∈ s.ants → IsNumberOf (take i steps) n)
        × AllHold (antecedent_conditions by side f (take i steps) s.ants s.lits)
    of_rows s (clean, (bound, (names, rows))) = ((clean, bound), names, rows)
