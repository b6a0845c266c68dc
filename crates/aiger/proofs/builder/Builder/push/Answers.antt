use Rattle.std.proofs.Common.{rules}
use Rattle.aiger.proofs.KeptGates.{pushed_value}
use Rattle.aiger.proofs.builder.Builder.push.Goals as goal

pub returns-clause-value : goal.returns-clause-value
returns-clause-value c =
    pushed_value _ c.self.inside.gates.items c.args.gate.now c.wire_at.result c.len-place.result (search rules)
    (search rules) c.wire_at.ensures
