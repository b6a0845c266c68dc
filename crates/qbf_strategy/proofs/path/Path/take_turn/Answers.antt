use Rattle.std.proofs.Common.{rules, refl}
use Rattle.qbf_strategy.proofs.PathValues.{turned_one}
use Rattle.qbf_strategy.proofs.path.Path.take_turn.Goals as goal

pub returns-clause-moved : goal.returns-clause-moved
returns-clause-moved c =
    turned_one c.args.gates.now c.args.self.now _ (record { wire = c.args.on; other = c.branches_of-branches.result.no })
    c.branches_of-branches.result (search rules) refl refl c.branches_of-branches.ensures c.requires.path c.requires.on
