use Rattle.qrp_rules.proofs.Cited.{◌≡◌, ◌∙◌, List, Some, ap, arith, slice_get, subst, sym, lit_test}
use Rattle.written_steps.proofs.Cited.{Watch}
use Rattle.std.proofs.lemmas.Option.{slice_get-get_or}
use Rattle.written_steps.proofs.initial_cubes.InitialCubes.position.Goals as goal

pub returns-then-eq : goal.returns-then-eq
returns-then-eq c =
    let w : Watch = c.in_ok-get.field-0.now in
    let found = c.in_ok-get.ensures.lookup in
    let at : slice_get c.deref-2.result.now c.in_ok-position.field-0.now ≡ Some w =
    slice_get-get_or c.deref-2.result.now c.in_ok-position.field-0.now w (omega (arith, found.0)) ∙ ap Some (sym found.1) in (
      w,
      subst (λ (ws : List Watch). slice_get ws c.in_ok-position.field-0.now ≡ Some w) c.deref-2.ensures.value at,
      lit_test w.lit c.args.lit (sym c.if-eq.ensures),
    )
