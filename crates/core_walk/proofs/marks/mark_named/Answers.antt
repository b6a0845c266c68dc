use Rattle.core_walk.proofs.Cited.{[], ◌∷◌, ap, sym, ◌∙◌}
use Rattle.trace_items.specs.Antecedents.{listed}
use Rattle.core_walk.proofs.Marking.{IsMarkedWith, marked_found, marked_none}
use Rattle.core_walk.proofs.marks.mark_named.Goals as goal

pub returns-in_ok-other-in-Two : goal.returns-in_ok-other-in-Two
returns-in_ok-other-in-Two g c = λ step here.
    let steps = g.T.KeptSteps.steps c.args.trace.now in
    let i = c.args.position in
    let old = c.args.marks.now in
    let first = c.in-Two.first in
    let one : IsMarkedWith steps i old (first ∷ []) c.mark_found-in-Two.new.marks =
    rw c.mark_found-in-Two.ensures (marked_found steps i old [] old first c.in_ok-found-in-Two.found c.in_ok-found-in-Two.ensures
    c.requires.marks (marked_none steps i old)) in
    let both = marked_found steps i old (first ∷ []) c.mark_found-in-Two.new.marks c.in-Two.second c.in_ok-other-in-Two.other
    c.in_ok-other-in-Two.ensures (c.mark_found-in-Two.auto.marks ∙ c.requires.marks) one in
    let named = sym (c.antecedents.ensures step here) ∙ ap listed c.in-Two.is in
    rw (c.mark_found-in-Two-2.ensures, named) both.each
