use Rattle.std.proofs.Common.{◌∙◌, ap, sym, cond, Bool, List, ℕ, [], ◌∷◌, ◌++◌, take}
use Rattle.qbf_core.specs.Blocks.{pairs}
use Rattle.qbf_strategy.specs.Winning.{variables_of}
use Rattle.qbf_strategy.proofs.AssembledCircuit.{numbers_next}
use Rattle.qbf_strategy.proofs.assembling.variables_of.Goals as goal

pub loop-place-preserved : goal.loop-place-preserved
loop-place-preserved c =
    let v = c.pair-found.result.1 in
    let next = numbers_next c.args.quantifier (pairs c.args.prefix.now) c.loop-place.place c.pair-found.result.0 v c.pair-found.ensures in
    record {
      so_far = c.in_ok-push_if.ensures
          ∙ (ap (λ (l : List ℕ). l ++ cond c.is_quantifier.result (v ∷ []) []) c.loop-place.invariant.so_far
          ∙ (ap (λ (b : Bool). variables_of c.args.quantifier (take c.loop-place.place (pairs c.args.prefix.now))
          ++ cond b (v ∷ []) []) c.is_quantifier.ensures ∙ sym next));
    }
