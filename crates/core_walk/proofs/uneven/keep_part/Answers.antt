use Rattle.core_walk.proofs.Cited.{at_place, take, sym, List, subst, ℕ, Inference}
use Rattle.core_walk.proofs.UnevenSteps.{kept_after}
use Rattle.core_walk.specs.Premises.{ArePremises}
use Rattle.core_walk.proofs.uneven.keep_part.Goals as goal

pub returns : goal.returns
returns g c =
    let steps : List Inference = g.T.KeptSteps.steps c.args.trace.now in
    let s = at_place steps c.args.step.position c.requires.position in
    let premise = c.in-Some.ensures (take c.args.step.position steps)
    (subst (λ (ns : List ℕ). ArePremises (take c.args.step.position steps) ns c.args.step.premises) (sym (c.antecedents.ensures s.0 s.1))
    (c.requires.are s.0 s.1)) in
    kept_after steps c.args.step.position c.in-Some.number c.in-Some.from.now premise g.S.Side.side c.args.context.formula.now.blocks
    c.args.parts.now c.keep.new.self c.keep.result c.len-distinct.ensures.distinct
    (rw c.prefix.ensures.value at c.keep.ensures) c.requires.parts
