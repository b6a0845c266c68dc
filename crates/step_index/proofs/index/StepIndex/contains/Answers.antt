use Rattle.std.proofs.Common.{arith, sym, ◌∙◌}
use Rattle.std.proofs.lemmas.Grind.{common_steps}
use Rattle.step_index.proofs.CountedNumbers.{found_used, unfound_used}
use Rattle.step_index.proofs.index.StepIndex.contains.Goals as goal

pub returns-then-is_some : goal.returns-then-is_some
returns-then-is_some c = rw (← c.self.view_is) (
    sym (found_used c.self.inside.first c.self.inside.counted c.self.inside.sparse c.args.number c.place_of.result
    c.place_of.ensures.some (sym c.is_some.ensures ∙ c.if-is_some.true)))

pub returns : goal.returns
returns c = grind (arith, common_steps, unfound_used)
