use Rattle.std.proofs.Common.{rules, Some, slice_get, ◌≡◌}
use Rattle.std.proofs.lemmas.Option.{slice_get_read}
use Rattle.qbf_strategy.proofs.PathValues.{agrees_next, takes_next}
use Rattle.qbf_strategy.proofs.path.agreeing.Goals as goal

pub loop-place-preserved : goal.loop-place-preserved
loop-place-preserved c =
    let turn = c.index-turns-place.result in
    let there : slice_get c.args.turns.now c.loop-place.place ≡ Some turn = search (rules, slice_get_read) in
    let at : slice_get c.args.wires.now c.loop-place.place ≡ Some turn.wire = search rules in
    record {
      few = agrees_next c.args.wires.now c.loop-place.place turn.wire at;
      takes = takes_next c.args.wires.now c.loop-place.place c.args.turns.now turn there at c.loop-place.invariant.takes;
    }
