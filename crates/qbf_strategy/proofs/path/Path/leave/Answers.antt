use Rattle.std.proofs.Common.{rules}
use Rattle.qbf_strategy.proofs.PathValues.{left_one}
use Rattle.qbf_strategy.proofs.path.Path.leave.Goals as goal

pub returns-in_ok-self-in-Some-clause-moved : goal.returns-in_ok-self-in-Some-clause-moved
returns-in_ok-self-in-Some-clause-moved c =
    left_one c.args.gates.now c.choose.new.self c.args.self.now _ c.in-Some.turn (search rules) c.in_ok-self-in-Some.ensures c.requires
