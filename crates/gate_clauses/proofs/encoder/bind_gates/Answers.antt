use Rattle.std.proofs.Common.{rules, ◌+◌, ◌++◌, ℕ, refl, sym, take}
use Rattle.qbf_core.specs.Blocks.{pairs}
use Rattle.qbf_gates.specs.Gates.{Gate}
use Rattle.qbf_gates.specs.Kept.{gate_of}
use Rattle.gate_clauses.specs.Encoding.{clauses_of, gate_clauses}
use Rattle.gate_clauses.proofs.Accepted.{gate_not_given, inputs_known}
use Rattle.gate_clauses.proofs.Encoded.{bound_gate, inputs_kept}
use Rattle.gate_clauses.proofs.Steps.{clauses_next, pairs_next}
use Rattle.gate_clauses.proofs.encoder.bind_gates.Goals as goal

pub loop-i-preserved : goal.loop-i-preserved
loop-i-preserved c =
    let found = c.gate-var.result in
    let gates = c.args.gates.now.gates in
    let gate : ℕ × Gate = (found.0, gate_of found.1 found.2.now) in
    let bind = c.in_ok-bind_gate.ensures in
    record {
      bound = pairs_next (pairs c.bind_gate.new.prefix) (pairs c.loop-i.prefix) (pairs c.args.prefix.now) gates c.loop-i.i
          gate c.gate-var.ensures c.loop-i.invariant.bound bind.pushed;
      closed = λ cs bound.
          let one = clauses_next ((cs ++ gate_clauses (take c.loop-i.i gates)) ++ clauses_of gate.0 gate.1)
          (cs ++ gate_clauses (take c.loop-i.i gates)) cs gates c.loop-i.i gate c.gate-var.ensures refl refl in
          bound_gate c.loop-i.prefix c.bind_gate.new.prefix found.0 gate.1 (cs ++ gate_clauses (take c.loop-i.i gates))
          (cs ++ gate_clauses (take (c.loop-i.i + 1) gates)) bind.pushed (sym one) (c.loop-i.invariant.closed cs bound)
          (rw (inputs_kept found.1 found.2.now) bind.known);
    }

pub returns-in_err-bind_gate-clause-given : goal.returns-in_err-bind_gate-clause-given
returns-in_err-bind_gate-clause-given c = λ is.
    let found = c.gate-var.result in
    gate_not_given c.loop-i.prefix (pairs c.args.prefix.now) c.args.gates.now.gates c.loop-i.i (found.0, gate_of found.1 found.2.now)
    c.loop-i.invariant.bound c.gate-var.ensures (c.in_err-bind_gate.ensures.given (search rules))

pub returns-in_err-bind_gate-clause-unknown : goal.returns-in_err-bind_gate-clause-unknown
returns-in_err-bind_gate-clause-unknown c = λ is order.
    let found = c.gate-var.result in
    c.in_err-bind_gate.ensures.unknown (search rules)
    (rw (inputs_kept found.1 found.2.now) at
    (inputs_known c.loop-i.prefix (pairs c.args.prefix.now) c.args.gates.now.gates c.loop-i.i (found.0, gate_of found.1 found.2.now)
    c.loop-i.invariant.bound c.gate-var.ensures order))
