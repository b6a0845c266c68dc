use Rattle.std.proofs.Common.{length, ap, ◌∙◌}
use Rattle.qbf_gates.specs.Kept.{GatesSoFar}
use Rattle.qcir.proofs.MoreParts.{grown}
use Rattle.qcir.proofs.parts.Parts.read_gate.Goals as goal

pub invariant_of-self-in_err-give : goal.invariant_of-self-in_err-give
invariant_of-self-in_err-give c =
    let old = c.self.inside in
    grown old.gates.blocks c.read_inputs.new.gates.blocks (length old.names) (length c.give.new.self)
    (ap (λ (b : GatesSoFar). b.blocks) c.read_inputs.ensures.rest) c.give.ensures.kept c.self.invariant

pub invariant_of-self-in_err-close : goal.invariant_of-self-in_err-close
invariant_of-self-in_err-close c =
    let old = c.self.inside in
    grown old.gates.blocks c.close.new.self.blocks (length old.names) (length c.give.new.self)
    (ap (λ (b : GatesSoFar). b.blocks) (c.in_err-close.ensures.err ∙ c.read_inputs.ensures.rest)) c.give.ensures.kept c.self.invariant

pub invariant_of-self-2 : goal.invariant_of-self-2
invariant_of-self-2 c =
    let old = c.self.inside in
    grown old.gates.blocks c.close.new.self.blocks (length old.names) (length c.give.new.self)
    (ap (λ (b : GatesSoFar). b.blocks) c.in_ok-close.ensures.closed ∙ ap (λ (b : GatesSoFar). b.blocks) c.read_inputs.ensures.rest) c.give.ensures.kept
    c.self.invariant
