use Rattle.core_walk.proofs.UnevenSteps.{premise_one, premises_two}
use Rattle.core_walk.proofs.uneven.longer.Goals as goal

pub returns-in-One-One : goal.returns-in-One-One
returns-in-One-One c = λ before are.
    premise_one before c.in-One-One.only c.in-One-One.from.now
    (rw c.in-One-One.is-1 at (rw c.in-One-One.is-0 at (rw c.in_ok-from.was at are)))

pub returns-then-a-b : goal.returns-then-a-b
returns-then-a-b c = λ before are.
    (premises_two before c.in-Two-Two.first c.in-Two-Two.second c.in-Two-Two.a.now c.in-Two-Two.b.now
    (rw c.in-Two-Two.is-1 at (rw c.in-Two-Two.is-0 at (rw c.in_ok-from.was at are)))).0

pub returns-else-a-b : goal.returns-else-a-b
returns-else-a-b c = λ before are.
    (premises_two before c.in-Two-Two.first c.in-Two-Two.second c.in-Two-Two.a.now c.in-Two-Two.b.now
    (rw c.in-Two-Two.is-1 at (rw c.in-Two-Two.is-0 at (rw c.in_ok-from.was at are)))).1
