use Rattle.qbf_core.proofs.Cited.{rules}
use Rattle.qbf_core.proofs.Packing.{long_added, long_refused}
use Rattle.qbf_core.proofs.packed_lists.PackedLists.add_long.Goals as goal

pub returns-clause-added : goal.returns-clause-added
returns-clause-added c =
    let inside = c.self.inside in
    long_added c.add_place.result inside.long.whole c.put_long.new.long.whole inside.bytes.whole c.add_place.new.bytes.whole c.args.lits.now
    c.in-Ok.place c.args.self.now c.in_ok-put_long.ensures.put (search rules) (search rules) c.self.invariant c.self.view_is c.add_place.ensures.put

pub returns-clause-err : goal.returns-clause-err
returns-clause-err c =
    let inside = c.self.inside in
    long_refused c.add_place.result inside.long.whole c.put_long.new.long.whole inside.bytes.whole c.add_place.new.bytes.whole c.args.lits.now
    c.args.self.now c.in_ok-put_long.ensures.put c.self.invariant c.self.view_is c.add_place.ensures.err
