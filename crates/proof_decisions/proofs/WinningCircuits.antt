-- A circuit that computes the decisions of a proof wins.
use Rattle.trace_check.proofs.Cited.{arith, ◌≡◌, ◌<◌, ◌≤◌, ℕ, zero, suc, List, [], ◌∷◌, inl, inr, refl, ap, subst, Some, slice_get, Literal, ◌∈◌}
use Rattle.trace_check.proofs.Cited.{IsBound, cases_order, pairs, side_of}
use Rattle.qbf_core.specs.Blocks.{variables}
use Rattle.qbf_core.specs.Rules.{reduced_quantifier}
use Rattle.qbf_core.specs.declared.quantifier.Quantifier.{Quantifier}
use Rattle.qbf_core.proofs.Bound.{apart_of, block, bound_in, pair_var}
use Rattle.qbf_core.proofs.Leaves.{pairs_ascend}
use Rattle.qbf_core.proofs.Members.{got_in, in_got}
use Rattle.qbf_core.proofs.Reduction.{Ascending}
use Rattle.qbf_strategy.proofs.Computed.{circuit_wins}
use Rattle.qbf_strategy.specs.Computing.{StandsBefore}
use Rattle.qbf_strategy.specs.Decisions.{Decision}
use Rattle.proof_decisions.specs.Laws.{CircuitsWin, DecisionsSeeBefore}
use Rattle.proof_decisions.proofs.Winning.{obeyed_wins, sees_before, sets_bound}

pub circuits_win : CircuitsWin
circuits_win by f sets steps result core ds c closed proves lists are computes =
    circuit_wins (reduced_quantifier (side_of result)) f closed ds c computes
    (sees_before by (side_of result) f steps core ds closed proves.derives lists are)
    (obeyed_wins by (side_of result) f steps core ds closed proves.derives lists are)

-- ---- places

of_variable : (ps : List (Quantifier × ℕ)) (u : ℕ) → u ∈ variables ps → (p : Quantifier) × ((p, u) ∈ ps)
of_variable [] u h = absurd h
of_variable ((q, v) ∷ ps) u (inl e) = (q, inl (let pair_with : ℕ → Quantifier × ℕ = λ n. (q, n) in ap pair_with e))
of_variable ((q, v) ∷ ps) u (inr h) = let w = of_variable ps u h in (w.0, inr w.1)

module _ (number : ℕ → ℕ) where
  -- the variable at a place has at least the number of the first
  first_low : (q : Quantifier) (v : ℕ) (ps : List (Quantifier × ℕ)) → Ascending number ((q, v) ∷ ps) → (u : ℕ) → u ∈ variables ps
      → number v ≤ number u
  first_low q v ps up u h = let w = of_variable ps u h in up.0 w.0 u w.1

  places_ascend : (ps : List (Quantifier × ℕ)) → Ascending number ps → (i j u v : ℕ) → slice_get (variables ps) i ≡ Some u
      → slice_get (variables ps) j ≡ Some v → i ≤ j → number u ≤ number v
  places_ascend [] up i j u v at_u at_v order = absurd (cc at_u)
  places_ascend ((q, w) ∷ ps) up zero zero u v at_u at_v order =
      let a : w ≡ u = cc at_u in
      let b : w ≡ v = cc at_v in omega (arith, subst (λ n. number n ≤ number v) a (subst (λ n. number w ≤ number n) b (omega arith)))
  places_ascend ((q, w) ∷ ps) up zero (suc j) u v at_u at_v order =
      let a : w ≡ u = cc at_u in subst (λ n. number n ≤ number v) a (first_low q w ps up v (got_in (variables ps) j v at_v))
  places_ascend ((q, w) ∷ ps) up (suc i) zero u v at_u at_v order = absurd (omega (arith, order))
  places_ascend ((q, w) ∷ ps) up (suc i) (suc j) u v at_u at_v order = places_ascend ps up.1 i j u v at_u at_v (omega (arith, order))

  stands_before : (ps : List (Quantifier × ℕ)) → Ascending number ps → (u v : ℕ) → u ∈ variables ps → v ∈ variables ps → number u < number v
      → StandsBefore ps u v
  stands_before ps up u v in_u in_v less =
      let a = in_got (variables ps) u in_u in
      let b = in_got (variables ps) v in_v in
      record {
        place = a.0;
        later = b.0;
        here = a.1;
        there = b.1;
        before = elim (cases_order a.0 b.0) [
          | inl same ↦ absurd (let k : number v ≤ number u = places_ascend ps up b.0 a.0 v u b.1 a.1 (omega (arith, same)) in omega (arith, k, less))
          | inr (inl before) ↦ before
          | inr (inr after) ↦ absurd (let k : number v ≤ number u = places_ascend ps up b.0 a.0 v u b.1 a.1 (omega (arith, after)) in omega (arith, k, less))
        ];
      }

pub decisions_see_before : DecisionsSeeBefore
decisions_see_before by f sets steps result core ds closed proves lists are =
    let listed : (v : ℕ) → IsBound f.blocks v → v ∈ variables (pairs f.blocks) = λ v bound.
    let w = bound_in (pairs f.blocks) v bound in pair_var (pairs f.blocks) w.0 v w.1 in
    let bound : (d : Decision) → d ∈ ds → (l : Literal) → l ∈ d.sets → l.var ∈ variables (pairs f.blocks) = λ d h l k.
    listed l.var (sets_bound by (side_of result) f steps core ds closed proves.derives lists are d h l k) in
    record {
      bound = bound;
      before = λ d h l k w m.
          let before = sees_before by (side_of result) f steps core ds closed proves.derives lists are l.var d h l k refl w m in
          stands_before (block f.blocks) (pairs f.blocks) (pairs_ascend f.blocks (apart_of (variables (pairs f.blocks)) closed.distinct)) w.var
          l.var (listed w.var before.0) (bound d h l k) before.1;
    }
