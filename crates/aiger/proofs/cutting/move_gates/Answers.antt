use Rattle.std.proofs.Common.{rules, ◌∙◌, ap, set}
use Rattle.std.proofs.lemmas.List.Edits.{map_over_more}
use Rattle.aiger.specs.Cutting.{moved_gate}
use Rattle.aiger.proofs.cutting.move_gates.Goals as goal

pub loop-place-preserved : goal.loop-place-preserved
loop-place-preserved c = record {
  put = ap (set c.loop-place.gates c.loop-place.place) c.moved_gate.ensures
      ∙ map_over_more (moved_gate c.args.kept c.args.all) c.args.gates.now c.loop-place.gates c.loop-place.place
      c.index-gates-place.result (search rules) c.loop-place.invariant.put (search rules);
}
