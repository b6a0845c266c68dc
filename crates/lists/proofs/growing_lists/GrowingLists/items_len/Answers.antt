use Rattle.std.proofs.Common.{arith}
use Rattle.lists.proofs.Buffer.{counted, drop_counted}
use Rattle.lists.proofs.growing_lists.GrowingLists.items_len.Goals as goal

pub returns-clause-value : goal.returns-clause-value
returns-clause-value g c =
    let xs = c.self.inside.items.items in
    let start = c.self.inside.start in
    let i = c.self.invariant in
    rw (← c.self.view_is) (omega (arith, c.self.inside.items.ok.0, c.len.ensures, counted xs 0 c.self.inside.ends start i.0 i.1, drop_counted xs start i.1))
