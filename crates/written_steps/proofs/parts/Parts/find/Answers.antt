use Rattle.qrp_rules.proofs.Cited.{◌≡◌, ◌∙◌, List, Some, ap, arith, slice_get, subst, sym, ◌∈◌, got_in}
use Rattle.std.proofs.lemmas.Option.{slice_get-get_or}
use Rattle.written_steps.specs.declared.parts.Part.{Part}
use Rattle.written_steps.proofs.parts.Parts.find.Goals as goal

pub returns-then-part-number : goal.returns-then-part-number
returns-then-part-number c =
    let part : Part = c.in_ok-part.part.now in
    let place = c.in_ok-place.field-0.now in
    let found = c.in_ok-part.ensures.lookup in
    let at : slice_get c.deref.result.now place ≡ Some part =
    slice_get-get_or c.deref.result.now place part (omega arith) ∙ ap Some (sym found.1) in (
      subst (λ (ps : List Part). part ∈ ps) c.deref.ensures.value (got_in c.deref.result.now place part at),
      c.if-part-number.true,
    )
