use Rattle.std.proofs.lemmas.Grind.{common_steps}
use Rattle.std.proofs.Common.{sym, ◌∙◌, arith}
use Rattle.std.proofs.lemmas.Bool.{eqb-true}
use Rattle.lists.proofs.PushedItems.{at_place}
use Rattle.core_walk.proofs.hints.is_at.Goals as goal

pub returns-then-position-len-clause-found : goal.returns-then-position-len-clause-found
returns-then-position-len-clause-found g c = (
  λ same.
      let s = at_place (g.T.KeptSteps.steps c.args.trace.now) c.args.position (omega (arith, c.if-position-len.true, c.len.ensures.len)) in
      (s.0, s.1, sym (c.number.ensures.value s.0 s.1) ∙ eqb-true _ _ same),
  λ there. let same = c.number.ensures.value there.0 there.1 ∙ there.2 in grind (arith, common_steps),
)
