use Rattle.std.proofs.Common.{rules, ◌∙◌, ap, set}
use Rattle.std.proofs.lemmas.List.Edits.{map_over_more}
use Rattle.aiger.specs.Cutting.{moved_output}
use Rattle.aiger.proofs.cutting.move_outputs.Goals as goal

pub loop-place-preserved : goal.loop-place-preserved
loop-place-preserved c = record {
  put = ap (set c.loop-place.outputs c.loop-place.place) c.moved_output.ensures
      ∙ map_over_more (moved_output c.args.kept c.args.all) c.args.outputs.now c.loop-place.outputs c.loop-place.place
      c.index-outputs-place.result (search rules) c.loop-place.invariant.put (search rules);
}
