-- Decisions that set nothing may be left out.
use Rattle.trace_check.proofs.Cited.{arith, ◌≡◌, ◌≤◌, ◌∙◌, ℕ, List, [], ◌∷◌, ap, sym, subst, inl, inr, refl, Literal, ◌∈◌}
use Rattle.std.proofs.Common.{Bool, true, false, cond}
use Rattle.qbf_core.specs.Blocks.{Block, pairs}
use Rattle.qbf_core.specs.Qbf.{Qbf, IsClosed}
use Rattle.qbf_core.specs.Rules.{reduced_quantifier}
use Rattle.qbf_core.specs.declared.quantifier.Quantifier.{Quantifier}
use Rattle.aiger.specs.Circuits.{Circuit}
use Rattle.qbf_strategy.specs.Computing.{Computes, SeesBefore, size}
use Rattle.qbf_completeness.specs.Setting.{are_set}
use Rattle.qbf_strategy.specs.Decisions.{Decision, decided, value_in}
use Rattle.qbf_strategy.specs.Winning.{IsWinningCircuit, set_in_run}
use Rattle.trace_items.specs.Inferences.{Inference}
use Rattle.trace_items.specs.declared.item.Outcome.{Outcome}
use Rattle.core_walk.specs.Core.{ListsCore}
use Rattle.trace_check.specs.Proof.{Proves, side_of}
use Rattle.qrp_rules.specs.declared.rules.Rules.{Rules}
use Rattle.proof_decisions.specs.ProofDecisions.{AreAllThatSet, unless_idle, without_idle}
use Rattle.proof_decisions.specs.Sizes.{core_size}
use Rattle.proof_decisions.proofs.DecisionSizes.{decisions_size}
use Rattle.proof_decisions.proofs.WinningCircuits.{circuits_win, decisions_see_before}

idle_decided : (otherwise : Bool) (ds : List Decision) (v : ℕ) (s : List Literal) → decided otherwise (without_idle ds) v s ≡ decided otherwise ds v s
idle_decided otherwise [] v s = refl
idle_decided otherwise (d ∷ ds) v s = by d.sets (idle_decided otherwise ds v s) refl
  where
    alike : (b value : Bool) → value ≡ cond b value value
    alike true value = refl
    alike false value = refl

    by : (ls : List Literal) → decided otherwise (without_idle ds) v s ≡ decided otherwise ds v s → d.sets ≡ ls
        → decided otherwise (unless_idle d ls (without_idle ds)) v s
        ≡ cond (are_set d.when s) (value_in d.sets v (decided otherwise ds v s)) (decided otherwise ds v s)
    by [] rest none = rw none (rest ∙ alike (are_set d.when s) (decided otherwise ds v s))
    by (l ∷ ls) rest some =
        ap (λ (x : Bool). cond (are_set d.when s) (value_in d.sets v x) x) rest

pub computes_all : (mine : Quantifier) (ps : List (Quantifier × ℕ)) (ds : List Decision) (c : Circuit) → Computes mine ps (without_idle ds) c
    → Computes mine ps ds c
computes_all mine ps ds c computes = record {
  inputs = computes.inputs;
  outputs = computes.outputs;
  ordered = computes.ordered;
  decides = λ o h. let of = computes.decides o h in (
    of.0,
    λ run is. of.1 run is ∙ idle_decided of.0 ds o.0 (set_in_run c run),
  );
}

in_all : (ds : List Decision) (d : Decision) → d ∈ without_idle ds → d ∈ ds
in_all [] d h = absurd h
in_all (e ∷ ds) d h = by e.sets (in_all ds d) h
  where
    by : (ls : List Literal) → (d ∈ without_idle ds → d ∈ ds) → d ∈ unless_idle e ls (without_idle ds) → d ∈ (e ∷ ds)
    by [] rest h = inr (rest h)
    by (l ∷ ls) rest (inl is) = inl is
    by (l ∷ ls) rest (inr h) = inr (rest h)

pub sees_before : (ps : List (Quantifier × ℕ)) (ds : List Decision) → SeesBefore ps ds → SeesBefore ps (without_idle ds)
sees_before ps ds sees = record {
  bound = λ d h. sees.bound d (in_all ds d h);
  before = λ d h. sees.before d (in_all ds d h);
}

pub smaller : (ds : List Decision) → size (without_idle ds) ≤ size ds
smaller [] = omega arith
smaller (d ∷ ds) = by d.sets (smaller ds)
  where
    by : (ls : List Literal) → size (without_idle ds) ≤ size ds → size (unless_idle d ls (without_idle ds)) ≤ size (d ∷ ds)
    by [] rest = omega (arith, rest)
    by (l ∷ ls) rest = omega (arith, rest)

-- ---- the decisions of a proof that set something

module _ (rules : Rules) (f : Qbf) (sets : List Block) (steps : List Inference) (result : Outcome) (core : List ℕ) (set : List Decision)
    (all : AreAllThatSet (side_of result) f steps core set) where
  abbrev mine : Quantifier
  mine = reduced_quantifier (side_of result)

  pub set_wins : (c : Circuit) → IsClosed f → Proves rules f sets steps result → ListsCore steps core → Computes mine (pairs f.blocks) set c
      → IsWinningCircuit mine f c
  set_wins c closed proves lists computes =
      circuits_win rules f sets steps result core all.0 c closed proves lists all.1
      (computes_all mine (pairs f.blocks) all.0 c (subst (λ (ds : List Decision). Computes mine (pairs f.blocks) ds c) all.2 computes))

  pub set_sees : IsClosed f → Proves rules f sets steps result → ListsCore steps core → SeesBefore (pairs f.blocks) set
  set_sees closed proves lists =
      subst (λ (ds : List Decision). SeesBefore (pairs f.blocks) ds) (sym all.2)
      (sees_before (pairs f.blocks) all.0 (decisions_see_before rules f sets steps result core all.0 closed proves lists all.1))

  pub set_size : size set ≤ core_size (side_of result) f steps core
  set_size =
      let same = ap size all.2 in
      let less = smaller all.0 in
      let small = decisions_size (side_of result) f steps core all.0 all.1 in omega (arith, same, less, small)
