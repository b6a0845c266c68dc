use Rattle.core_walk.proofs.Cited.{◌∙◌, at_place, take, List, ℕ, Block, Inference}
use Rattle.core_walk.proofs.UnevenSteps.{fit_within, premise_one, premise_parts, premises_two}
use Rattle.core_walk.proofs.uneven.shorter.Goals as goal

pub returns-in_ok-part-in-One-One : goal.returns-in_ok-part-in-One-One
returns-in_ok-part-in-One-One g c =
    let blocks : List Block = c.args.context.formula.now.blocks in
    let steps : List Inference = g.T.KeptSteps.steps c.args.trace.now in
    let i : ℕ = c.args.step.position in
    let from = c.in-One-One.field-0-0.now in
    let s = at_place steps i c.requires.position in
    let found = rw c.in-One-One.is-0 at (rw c.in_ok-step.was at c.requires.are s.0 s.1) in
    let premise = premise_one (take i steps) c.in-One-One.only from
    (found.0, (rw c.in-One-One.is-1 at c.antecedents.ensures s.0 s.1) ∙ found.1, found.2) in
    let enough = rw c.prefix-prefix.ensures.value at c.in_ok-part-in-One-One.ensures from
    (premise_parts steps i c.in-One-One.only from premise g.S.Side.side blocks c.args.parts.now c.requires.parts) in
    rw c.in_ok-step.was (rw c.in-One-One.is-0 (record {
      fit = fit_within blocks from c.in_ok-part-in-One-One.part.now enough.0
          (rw c.in-One-One.is-0 at (rw c.in_ok-step.was at c.requires.fit));
      follows = λ all. (all.0, (all.1.0, enough.1 all.1.1));
    }))

pub returns-in_ok-part-in-Two-Two : goal.returns-in_ok-part-in-Two-Two
returns-in_ok-part-in-Two-Two g c =
    let blocks : List Block = c.args.context.formula.now.blocks in
    let steps : List Inference = g.T.KeptSteps.steps c.args.trace.now in
    let i : ℕ = c.args.step.position in
    let s = at_place steps i c.requires.position in
    let found = rw c.in-Two-Two.is-0 at (rw c.in_ok-step.was at c.requires.are s.0 s.1) in
    let premises = premises_two (take i steps) c.in-Two-Two.first c.in-Two-Two.second c.in-Two-Two.a.now c.in-Two-Two.b.now
    (found.0, found.1, (rw c.in-Two-Two.is-1 at c.antecedents.ensures s.0 s.1) ∙ found.2, found.3, found.4) in
    let fits = rw c.in-Two-Two.is-0 at (rw c.in_ok-step.was at c.requires.fit) in
    let enough = rw c.prefix-prefix.ensures.value at c.in_ok-part-in-Two-Two.ensures c.in-Two-Two.a.now
    (premise_parts steps i c.in-Two-Two.first c.in-Two-Two.a.now premises.0 g.S.Side.side blocks c.args.parts.now c.requires.parts) in
    rw c.in_ok-step.was (rw c.in-Two-Two.is-0 (record {
      fit = (fit_within blocks c.in-Two-Two.a.now c.in_ok-part-in-Two-Two.part.now enough.0 fits.0, fits.1);
      follows = λ all. (all.0, (all.1.0, (enough.1 c.args.context.rules).0 all.1.1));
    }))

pub returns-in_ok-part-in-Two-Two-2 : goal.returns-in_ok-part-in-Two-Two-2
returns-in_ok-part-in-Two-Two-2 g c =
    let blocks : List Block = c.args.context.formula.now.blocks in
    let steps : List Inference = g.T.KeptSteps.steps c.args.trace.now in
    let i : ℕ = c.args.step.position in
    let s = at_place steps i c.requires.position in
    let found = rw c.in-Two-Two.is-0 at (rw c.in_ok-step.was at c.requires.are s.0 s.1) in
    let premises = premises_two (take i steps) c.in-Two-Two.first c.in-Two-Two.second c.in-Two-Two.a.now c.in-Two-Two.b.now
    (found.0, found.1, (rw c.in-Two-Two.is-1 at c.antecedents.ensures s.0 s.1) ∙ found.2, found.3, found.4) in
    let fits = rw c.in-Two-Two.is-0 at (rw c.in_ok-step.was at c.requires.fit) in
    let enough = rw c.prefix-prefix.ensures.value at c.in_ok-part-in-Two-Two-2.ensures c.in-Two-Two.b.now
    (premise_parts steps i c.in-Two-Two.second c.in-Two-Two.b.now premises.1 g.S.Side.side blocks c.args.parts.now c.requires.parts) in
    rw c.in_ok-step.was (rw c.in-Two-Two.is-0 (record {
      fit = (fits.0, fit_within blocks c.in-Two-Two.b.now c.in_ok-part-in-Two-Two-2.part.now enough.0 fits.1);
      follows = λ all. (all.0, (all.1.0, (enough.1 c.args.context.rules).1 all.1.1));
    }))
