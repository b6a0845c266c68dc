use Rattle.std.proofs.Common.{arith, ap, ◌∙◌, ◌≡◌, length}
use Rattle.std.proofs.lemmas.Grind.{common_steps}
use Rattle.std.proofs.lemmas.List.{length-take}
use Rattle.lists.specs.Lists.{count_items}
use Rattle.lists.proofs.Buffer.{counted, drop_first, first_parts}
use Rattle.lists.proofs.growing_lists.GrowingLists.shorten.Goals as goal

pub invariant_of-self : goal.invariant_of-self
invariant_of-self g c =
    let xs = c.self.inside.items.items in
    let start = c.self.inside.start in
    let i = c.self.invariant in
    let before : count_items c.args.self.now.whole ≡ start =
    rw (← c.self.view_is) (omega (arith, counted xs 0 c.self.inside.ends start i.0 i.1)) in
    (i.0, omega (arith, before, c.requires, ap length c.truncate.ensures.items ∙ length-take c.args.len xs, i.1))

pub returns : goal.returns
returns g c = grind (arith, common_steps, counted, drop_first, first_parts)
