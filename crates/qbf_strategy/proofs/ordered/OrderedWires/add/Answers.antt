use Rattle.std.proofs.Common.{List, ◌≡◌, ◌++◌, ◌∷◌, [], ap, ◌∙◌, rules}
use Rattle.aiger.specs.Wires.{Wire}
use Rattle.qbf_strategy.proofs.ListedWires.{added}
use Rattle.qbf_strategy.proofs.ordered.OrderedWires.add.Goals as goal

pub returns : goal.returns
returns c = λ at ordered are.
    added at c.args.self.now _ c.args.decision c.whole_len-number.result c.args.wires.now (search rules) c.whole_len-number.ensures
    c.set_number.ensures ordered are
