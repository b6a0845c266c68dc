use Rattle.std.proofs.Common.{rules}
use Rattle.aiger.proofs.TrimmedGates.{gate_added, gate_out}
use Rattle.aiger.proofs.trimming.Trimming.add.Goals as goal

pub returns-in_ok-push-clause-added : goal.returns-in_ok-push-clause-added
returns-in_ok-push-clause-added c =
    gate_added c.args.self.now.first c.args.gate.now c.args.self.now.gates.items c.put.new.self.gates.items c.args.self.now.wires.items
    c.push.new.self.items c.in_ok-wire.wire c.in_ok-wire.ensures.put (search rules)

pub returns-in_ok-push-2-clause-added : goal.returns-in_ok-push-2-clause-added
returns-in_ok-push-2-clause-added c =
    gate_added c.args.self.now.first c.args.gate.now c.args.self.now.gates.items c.args.self.now.gates.items c.args.self.now.wires.items
    c.push-else-needed.new.self.items c.constant.result
    (gate_out c.args.self.now.first c.args.gate.now c.args.self.now.gates.items c.args.self.now.wires.items c.constant.result
    c.constant.ensures)
    c.in_ok-push-2.ensures.items
