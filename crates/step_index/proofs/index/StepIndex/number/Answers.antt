use Rattle.std.proofs.Common.{◌<◌, ◌+◌, ◌^◌, ℕ, arith, ◌++◌}
use Rattle.step_index.specs.Numbers.{count_from}
use Rattle.lists.proofs.DistinctNumbers.{all_at}
use Rattle.step_index.proofs.CountedNumbers.{front_at}
use Rattle.step_index.proofs.index.StepIndex.number.Goals as goal

pub overflow_add-result : goal.overflow_add-result
overflow_add-result c =
    let fit : c.self.inside.first + c.args.i < 2 ^ 64 =
    all_at (λ (n : ℕ). n < 2 ^ 64) (count_from c.self.inside.first c.self.inside.counted ++ c.self.inside.sparse) c.args.i
    (c.self.inside.first + c.args.i)
    c.self.invariant.numbers.fit (front_at c.self.inside.first c.self.inside.counted c.self.inside.sparse c.args.i c.if-i-self.true) in
    omega (arith, fit)
