use Rattle.std.proofs.Common.{ℕ}
use Rattle.qbf_gates.specs.Gates.{Gate}
use Rattle.qbf_gates.specs.Kept.{gate_of}
use Rattle.gate_clauses.proofs.Steps.{clauses_next}
use Rattle.gate_clauses.proofs.encoder.put_clauses.Goals as goal

pub loop-i-preserved : goal.loop-i-preserved
loop-i-preserved c =
    let found = c.gate-var.result in
    let gate : ℕ × Gate = (found.0, gate_of found.1 found.2.now) in
    clauses_next c.put_gate_clauses.new.clauses.whole c.loop-i.clauses.whole c.args.clauses.now.whole c.args.gates.now.gates c.loop-i.i gate
    c.gate-var.ensures c.loop-i.invariant c.in_ok-put_gate_clauses.ensures
