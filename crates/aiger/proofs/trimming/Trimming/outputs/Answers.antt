use Rattle.std.proofs.Common.{rules, ap, sym, ◌∙◌, refl, Some, ◌≡◌, slice_get}
use Rattle.std.proofs.lemmas.Option.{slice_get_read}
use Rattle.aiger.proofs.TrimmedGates.{outputs_next}
use Rattle.aiger.proofs.trimming.Trimming.outputs.Goals as goal

pub loop-output-preserved : goal.loop-output-preserved
loop-output-preserved c = record {
  same = λ old is. outputs_next c.args.self.now.first old c.args.self.now.gates.items c.args.outputs.now c.loop-output.output-index
      (c.output.inside.name, c.output.inside.wire) c.loop-output.renamed.items c.push.new.self.items _
      (let item : slice_get c.args.outputs.now c.loop-output.output-index ≡ Some c.output-item.result = search (rules, slice_get_read) in
      item ∙ ap Some (sym c.output.view_is))
      c.in_ok-push-in-Some.ensures.items refl (c.in-Some.ensures old is) (c.loop-output.invariant.same old is);
}
