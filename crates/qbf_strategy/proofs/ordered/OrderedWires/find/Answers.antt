use Rattle.std.proofs.Common.{rules, List, Some, ◌≡◌, ℕ, slice_get, subst}
use Rattle.std.proofs.lemmas.Option.{slice_get_read}
use Rattle.qbf_strategy.proofs.ListedWires.{found, some_weaker}
use Rattle.qbf_strategy.proofs.ordered.OrderedWires.find.Goals as goal

pub returns-in-Some : goal.returns-in-Some
returns-in-Some c =
    let there : slice_get c.deref.result.now c.args.decision ≡ Some c.in-Some.number.now = search (rules, slice_get_read) in
    some_weaker c.list.result
    (λ wires is at. found at c.args.self.now c.args.decision c.in-Some.number.now wires.now
    (subst (λ (numbers : List ℕ). slice_get numbers c.args.decision ≡ Some c.in-Some.number.now) c.deref.ensures.value there) is)
    c.list.ensures
