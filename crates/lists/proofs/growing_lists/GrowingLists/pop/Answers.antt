use Rattle.lists.proofs.Buffer.{fewer_reach}
use Rattle.lists.proofs.growing_lists.GrowingLists.pop.Goals as goal

pub invariant_of-self : goal.invariant_of-self
invariant_of-self g c =
    let inside = c.self.inside in
    let r = c.self.invariant in
    fewer_reach inside.ends _ inside.start _ _ _ c.pop.ensures c.last-start.ensures r.0 r.1
