use Rattle.std.proofs.Common.{arith, rules, subst, sym, length, ◌≡◌, ◌≤◌, ℕ}
use Rattle.aiger.specs.Building.{next_of}
use Rattle.qbf_strategy.specs.Paths.{TakesFirst}
use Rattle.qbf_strategy.proofs.ConditionGates.{below_at}
use Rattle.qbf_strategy.proofs.PathValues.{moved_same, moved_then, takes_more}
use Rattle.qbf_strategy.proofs.path.Path.take_turns.Goals as goal

pub loop-place-init : goal.loop-place-init
loop-place-init c =
    let from : c.len-from.result ≡ length c.args.self.now.turns.items = search rules in
    record {
      moved = moved_same c.args.gates.now c.args.self.now c.requires.path;
      takes = subst (λ (i : ℕ). TakesFirst c.args.wires.now i c.args.self.now.turns.items) (sym from) c.requires.takes;
    }

pub take_turn-requires-clause-path : goal.take_turn-requires-clause-path
take_turn-requires-clause-path c = c.loop-place.invariant.moved.below

pub take_turn-requires-clause-on : goal.take_turn-requires-clause-on
take_turn-requires-clause-on c =
    below_at (next_of c.args.gates.now) c.args.wires.now c.loop-place.place c.wire_at.result c.requires.wires c.wire_at.ensures

pub loop-place-preserved : goal.loop-place-preserved
loop-place-preserved c = record {
  moved = moved_then c.args.gates.now c.args.gates.now c.args.gates.now c.args.self.now c.loop-place.self c.take_turn.new.self
      c.loop-place.invariant.moved c.in_ok-take_turn.ensures.moved;
  takes = takes_more c.args.wires.now c.loop-place.place c.loop-place.self.turns.items c.take_turn.new.self.turns.items
      c.wire_at.result c.wire_at.ensures c.in_ok-take_turn.ensures.turned c.loop-place.invariant.takes;
}

pub returns-clause-moved : goal.returns-clause-moved
returns-clause-moved c = c.loop-place.invariant.moved

pub returns-clause-takes : goal.returns-clause-takes
returns-clause-takes c =
    let from : c.len-from.result ≡ length c.args.self.now.turns.items = search rules in
    let least : c.len-from.result ≤ c.args.until = (let least = c.requires.from in omega (arith, from, least)) in
    let here : c.loop-place.place ≡ c.args.until =
    (let past = c.loop-place-test.false in let end = c.loop-place.auto.place-end least in omega (arith, past, end)) in
    subst (λ (i : ℕ). TakesFirst c.args.wires.now i c.loop-place.self.turns.items) here c.loop-place.invariant.takes
