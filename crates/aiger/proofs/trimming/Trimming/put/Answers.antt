use Rattle.std.proofs.Common.{rules}
use Rattle.aiger.proofs.TrimmedGates.{gate_put}
use Rattle.aiger.proofs.trimming.Trimming.put.Goals as goal

pub returns-in_ok-push-in-Some-Some-clause-put : goal.returns-in_ok-push-in-Some-Some-clause-put
returns-in_ok-push-in-Some-Some-clause-put c =
    gate_put c.args.self.now.first c.args.gate.now _ c.args.self.now.gates.items c.push.new.self.items c.args.self.now.wires.items
    c.new.result
    c.in_ok-push-in-Some-Some.ensures.items (search rules) (search rules) c.in-Some-Some.ensures c.in-Some-Some.ensures'
