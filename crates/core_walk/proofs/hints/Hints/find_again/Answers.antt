use Rattle.std.proofs.Common.{sym, ◌∙◌, arith}
use Rattle.lists.proofs.PushedItems.{at_place}
use Rattle.core_walk.proofs.hints.Hints.find_again.Goals as goal

pub returns-then-number : goal.returns-then-number
returns-then-number g c =
    let s = at_place (g.T.KeptSteps.steps c.args.trace.now) c.in-Some.index (omega (arith, c.if-index-position.true, c.requires)) in
    record {
      before = c.if-index-position.true;
      step = s.0;
      here = s.1;
      named = sym (c.number.ensures.value s.0 s.1) ∙ c.if-number.true;
      only = rw c.if-number.true at c.number.ensures.only;
    }
