use Rattle.core_walk.proofs.Cited.{common_steps, arith}
use Rattle.core_walk.proofs.CoreStep.{not_tautology, none_unbound}
use Rattle.core_walk.proofs.step.own_set.Goals as goal

pub unreachable-requires : goal.unreachable-requires
unreachable-requires c = not_tautology c.args.lits.now c.requires.0 (c.in-Err-E1.ensures.clash (cc c.in-Err-E1.field-0-is))

pub unreachable-requires-in-Err-E2 : goal.unreachable-requires-in-Err-E2
unreachable-requires-in-Err-E2 c = grind (arith, common_steps, none_unbound)
