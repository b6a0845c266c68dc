use Rattle.std.proofs.Common.{rules, arith, append_assoc, length-append}
use Rattle.std.proofs.lemmas.Grind.{common_steps}
use Rattle.step_index.proofs.CountedNumbers.{count_length, counted_pushed, numbers_pushed}
use Rattle.step_index.proofs.index.StepIndex.push.Goals as goal

-- the number is counted
pub returns-then-continues_count-clause-pushed : goal.returns-then-continues_count-clause-pushed
returns-then-continues_count-clause-pushed c = grind (arith, common_steps, counted_pushed)

pub returns-then-continues_count-clause-sound : goal.returns-then-continues_count-clause-sound
returns-then-continues_count-clause-sound c = grind (arith, common_steps, count_length, numbers_pushed, returns-then-continues_count-clause-pushed)

pub invariant_of-self : goal.invariant_of-self
invariant_of-self c = search (rules, returns-then-continues_count-clause-sound)

-- the number is sparse
pub returns-clause-sound : goal.returns-clause-sound
returns-clause-sound c = grind (arith, common_steps, append_assoc, numbers_pushed, length-append, count_length)

pub invariant_of-self-2 : goal.invariant_of-self-2
invariant_of-self-2 c = record { numbers = returns-clause-sound c; few = c.self.invariant.few }
