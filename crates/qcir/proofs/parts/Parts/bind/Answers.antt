use Rattle.std.proofs.Common.{arith, ◌≡◌, length, ap, Err, true}
use Rattle.qbf_core.specs.Blocks.{is_bound, pairs}
use Rattle.qbf_gates.specs.Kept.{GatesSoFar}
use Rattle.qcir.proofs.MoreParts.{grown, one_grown, one_longer, within}
use Rattle.qcir.proofs.parts.Parts.bind.Goals as goal
use Rattle.qcir.proofs.parts.Parts.bind.Goals.{in-Ok, in-Err-B2}
use Rattle.std.proofs.Common.{refl}

pub invariant_of-self : goal.invariant_of-self
invariant_of-self c =
    let old = c.self.inside in
    grown old.gates.blocks old.gates.blocks (length old.names) (length c.give.new.self) refl c.give.ensures.kept c.self.invariant

pub unreachable-requires : goal.unreachable-requires
unreachable-requires c =
    let old = c.self.inside in
    let there : is_bound c.last_variable-var.result (pairs old.gates.blocks) ≡ true = c.in-Err-B1.ensures.given (ap Err c.in-Err-B1.field-0-is) in
    let few = within (pairs old.gates.blocks) c.last_variable-var.result (length old.names) c.self.invariant there in
    let more = one_longer old.names c.give.new.self c.args.name.now c.in_ok-give.ensures.given in
    omega (arith, few, more, c.last_variable-var.ensures)

pub invariant_of-self-2 : goal.invariant_of-self-2
invariant_of-self-2 c =
    let old = c.self.inside in
    let new = c.bind.new.self in
    let var = c.last_variable-var.ensures in
    let kept = c.give.ensures.kept in
    elim c.match-bind.branch [
      | in-Ok w ↦ let pushed = rw var at w.in-Ok.ensures.bound in
          one_grown old.gates.blocks new.blocks c.args.quantifier (length old.names) (length c.give.new.self) pushed kept c.self.invariant
      | in-Err-B2 w ↦ grown old.gates.blocks new.blocks (length old.names) (length c.give.new.self)
          (ap (λ (b : GatesSoFar). b.blocks) w.in-Err-B2.ensures.err) kept c.self.invariant
    ]
