use Rattle.std.proofs.Common.{rules, ap, ◌∙◌}
use Rattle.aiger.specs.Wires.{turned}
use Rattle.aiger.proofs.TrimmedGates.{same_wire}
use Rattle.aiger.proofs.trimming.Trimming.wire.Goals as goal

pub returns : goal.returns
returns c = λ old is.
    same_wire c.args.self.now.first old c.args.self.now.gates.items c.args.self.now.wires.items is c.args.wire c.in_ok-found.found
    c.turned.result (search rules) c.in_ok-found.ensures.0 (c.turned.ensures ∙ ap (turned c.in_ok-found.found) c.is_negated.ensures)
