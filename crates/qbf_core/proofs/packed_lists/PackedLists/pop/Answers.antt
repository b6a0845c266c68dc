use Rattle.qbf_core.proofs.Packing.{last_taken}
use Rattle.qbf_core.proofs.packed_lists.PackedLists.pop.Goals as goal

pub returns : goal.returns
returns c = last_taken c.self.inside.long.whole c.self.inside.bytes c.pop.new.self c.args.self.now c.self.view_is c.pop.ensures
