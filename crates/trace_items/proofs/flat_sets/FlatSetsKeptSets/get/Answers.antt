use Rattle.std.proofs.Common.{rules, ◌≡◌, ◌<◌, ℕ, List, Some, length, slice_get, ap, sym, ◌∙◌, subst, refl}
use Rattle.std.proofs.lemmas.Option.{slice_get_read}
use Rattle.qbf_core.specs.declared.quantifier.Quantifier.{Quantifier}
use Rattle.trace_items.proofs.SetLists.{sets_at, sets_count}
use Rattle.trace_items.proofs.flat_sets.FlatSetsKeptSets.get.Goals as goal

pub returns : goal.returns
returns c =
    let qs : List Quantifier = c.self.inside.quantifiers.items in
    let vars : List (List ℕ) = c.self.inside.vars.whole in
    let less : c.args.i < length qs = subst (λ n. c.args.i < n) (sym (ap length c.self.view_is) ∙ sets_count qs vars c.self.invariant) c.requires in
    let here : slice_get qs c.args.i ≡ Some c.index.result.now =
    slice_get_read qs (length qs) c.args.i c.index.result.now refl less (search rules) in
    rw (← c.self.view_is) (sets_at qs vars c.args.i c.index.result.now c.get.result.now here c.get.ensures)
