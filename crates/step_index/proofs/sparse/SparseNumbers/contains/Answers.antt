use Rattle.std.proofs.Common.{◌∙◌, refl, sym}
use Rattle.std.proofs.lemmas.Bool.{false≢true}
use Rattle.step_index.proofs.CountedNumbers.{far_used, near_used, unused_above}
use Rattle.step_index.proofs.sparse.SparseNumbers.contains.Goals as goal

pub returns-then-is_above : goal.returns-then-is_above
returns-then-is_above c = rw (← c.self.view_is) (
    sym (unused_above c.self.inside.numbers.items c.args.number c.self.inside.greatest c.self.invariant.1 (c.if-is_above.ensures.0 refl)))

pub returns-then-contains : goal.returns-then-contains
returns-then-contains c = rw (← c.self.view_is) (near_used _ _ _ _ _ _ c.self.invariant.0 (c.if-contains.ensures.0 refl))

pub returns : goal.returns
returns c = rw (← c.self.view_is, c.is_some.ensures) (
    far_used _ _ _ _ _ _ c.self.invariant.0 _ (λ some. false≢true (c.if-contains.ensures.1 some)) (c.copied.ensures ∙ c.get-far.ensures.value))
