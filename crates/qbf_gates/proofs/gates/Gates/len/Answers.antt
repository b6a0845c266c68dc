use Rattle.std.proofs.Common.{arith, length, ap}
use Rattle.qbf_gates.specs.Kept.{GatesSoFar}
use Rattle.qbf_gates.proofs.KeptGates.{lengths}
use Rattle.qbf_gates.proofs.gates.Gates.len.Goals as goal

pub returns : goal.returns
returns c =
    let kept = c.self.inside in
    let same = lengths kept.names.items kept.inputs.whole c.self.invariant in
    let seen = ap (λ (b : GatesSoFar). length b.gates) c.self.view_is in
    omega (arith, same, seen, kept.names.ok.0, c.len.ensures)
