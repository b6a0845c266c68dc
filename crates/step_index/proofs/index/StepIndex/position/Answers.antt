use Rattle.std.proofs.lemmas.Grind.{common_steps}
use Rattle.std.proofs.Common.{nat_eq, ◌≡◌, ℕ, Some, ap, slice_get, ◌++◌, ◌+◌, arith}
use Rattle.std.specs.List.{IsDistinct}
use Rattle.std.proofs.lemmas.Option.{slice_get_within}
use Rattle.step_index.specs.Numbers.{count_from}
use Rattle.lists.proofs.DistinctNumbers.{one_place}
use Rattle.step_index.proofs.CountedNumbers.{front_at, sparse_at}
use Rattle.step_index.proofs.index.StepIndex.position.Goals as goal

pub returns-in-Some-clause-only : goal.returns-in-Some-clause-only
returns-in-Some-clause-only c = λ i here.
    let distinct : IsDistinct nat_eq c.args.self.now = rw (← c.self.view_is) c.self.invariant.numbers.distinct in
    let there : slice_get c.args.self.now c.in-Some.i ≡ Some c.args.number = grind (arith, common_steps, front_at) in
    ap (λ (k : ℕ). Some k) (one_place c.args.self.now distinct c.in-Some.i i c.args.number there here)

pub overflow_add-result : goal.overflow_add-result
overflow_add-result c =
    let within = slice_get_within (count_from c.self.inside.first c.self.inside.counted ++ c.self.inside.sparse)
    (c.self.inside.counted + c.in_ok-i.i) c.args.number (sparse_at c.self.inside.first c.self.inside.counted c.self.inside.sparse
    c.args.number c.in_ok-i.i c.in_ok-i.ensures.some) in
    omega (arith, within, c.self.invariant.numbers.count)

pub returns-clause-only : goal.returns-clause-only
returns-clause-only c = λ i here.
    let distinct : IsDistinct nat_eq c.args.self.now = rw (← c.self.view_is) c.self.invariant.numbers.distinct in
    let there : slice_get c.args.self.now (c.self.inside.counted + c.in_ok-i.i) ≡ Some c.args.number = grind (arith, common_steps, sparse_at) in
    ap (λ (k : ℕ). Some k) (one_place c.args.self.now distinct _ i c.args.number there here)
