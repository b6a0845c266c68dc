use Rattle.std.proofs.Common.{arith, rules}
use Rattle.std.proofs.lemmas.Option.{slice_get_read}
use Rattle.qbf_strategy.proofs.ConditionGates.{below_at, below_grown, conjunction_all, conjunction_first, conjunction_next}
use Rattle.aiger.specs.Building.{next_of}
use Rattle.qbf_strategy.proofs.combining.conjunction.Goals as goal

pub loop-wire-init : goal.loop-wire-init
loop-wire-init c = record
    { joined = conjunction_first c.args.gates.now _ c.constant-all.result c.constant-all.ensures.value c.constant-all.ensures.below }

pub and-requires-clause-right : goal.and-requires-clause-right
and-requires-clause-right c =
    below_at (next_of c.loop-wire.gates) c.args.wires.now c.loop-wire.wire-index c.wire-item.result
    (below_grown c.args.gates.now c.loop-wire.gates c.args.wires.now c.loop-wire.invariant.joined.grows c.requires)
    (search (rules, slice_get_read))

pub loop-wire-preserved : goal.loop-wire-preserved
loop-wire-preserved c = record {
  joined = conjunction_next c.args.gates.now c.loop-wire.gates c.and.new.self c.args.wires.now c.loop-wire.wire-index
      c.loop-wire.all
      c.in_ok-all.all c.wire-item.result (search (rules, slice_get_read)) c.and.ensures.grows c.and.ensures.one c.in_ok-all.ensures.below
      c.in_ok-all.ensures.value c.loop-wire.invariant.joined;
}

pub returns-clause-value : goal.returns-clause-value
returns-clause-value c =
    conjunction_all c.args.gates.now c.loop-wire.gates c.args.wires.now c.loop-wire.wire-index c.loop-wire.all (omega arith)
    c.loop-wire.invariant.joined
