use Rattle.qrp_rules.proofs.Cited.{◌≡◌, ◌∙◌, Some, ap, arith, slice_get, subst, sym, Literal, ◌∈◌, got_in, lit_test}
use Rattle.std.proofs.lemmas.Option.{slice_get-get_or}
use Rattle.written_steps.proofs.initial_cubes.surely_among.Goals as goal

pub returns-in-Some : goal.returns-in-Some
returns-in-Some c = λ t.
    let other : Literal = c.in-Some.other.now in
    let place = c.partition_point-place.result in
    let found = c.in-Some.ensures.lookup in
    let at : slice_get c.args.clause.now place ≡ Some other =
    slice_get-get_or c.args.clause.now place other (omega (arith, found.0)) ∙ ap Some (sym found.1) in
    subst (λ (z : Literal). z ∈ c.args.clause.now) (lit_test other c.args.lit (sym c.eq.ensures ∙ t)) (got_in c.args.clause.now place other at)
