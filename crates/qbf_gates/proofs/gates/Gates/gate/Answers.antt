use Rattle.std.proofs.Common.{arith, ◌<◌, length, ap, sym, slice_get, ◌∙◌}
use Rattle.qbf_gates.specs.Kept.{GatesSoFar}
use Rattle.qbf_gates.proofs.KeptGates.{gate_at, lengths}
use Rattle.qbf_gates.proofs.gates.Gates.gate.Goals as goal

pub index-requires : goal.index-requires
index-requires c =
    let kept = c.self.inside in
    let same = lengths kept.names.items kept.inputs.whole c.self.invariant in
    let seen = ap (λ (b : GatesSoFar). length b.gates) c.self.view_is in
    omega (arith, same, seen, kept.names.ok.0, c.requires)

pub get-requires : goal.get-requires
get-requires c =
    let kept = c.self.inside in
    let same = lengths kept.names.items kept.inputs.whole c.self.invariant in
    let seen = ap (λ (b : GatesSoFar). length b.gates) c.self.view_is in
    omega (arith, same, seen, c.self.invariant, c.requires)

pub returns : goal.returns
returns c =
    let kept = c.self.inside in
    let same = lengths kept.names.items kept.inputs.whole c.self.invariant in
    let seen = ap (λ (b : GatesSoFar). length b.gates) c.self.view_is in
    let within : c.args.index < length kept.names.items = omega (arith, same, seen, c.requires) in
    ap (λ (b : GatesSoFar). slice_get b.gates c.args.index) (sym c.self.view_is)
    ∙ gate_at kept.names.items kept.inputs.whole c.args.index c.index.result.now c.get.result.now within c.index.ensures
    c.get.ensures
