use Rattle.qbf_tokens.proofs.Cited.{◌≡◌, sym, ap, ◌∙◌}
use Rattle.window_numbers.proofs.Cited.{eqb-true, get_or}
use Rattle.std.specs.Prelude.{pos}
use Rattle.std.proofs.Common.{SFits, w32, to_z}
use Rattle.std.proofs.lemmas.Int.{to_z-of_z}
use Rattle.window_numbers.specs.Values.{value_of}
use Rattle.window_numbers.proofs.PartedNumbers.{parted_at}
use Rattle.window_numbers.proofs.values.Values.surely_zero.Goals as goal

pub returns-then-place-self-clause-zero : goal.returns-then-place-self-clause-zero
returns-then-place-self-clause-zero c = λ zero.
    let shorts = c.args.self.short.now in
    let longs = c.args.self.long.now in
    let place = c.args.place in
    let s = get_or shorts place (pos 0) in
    let fits : SFits w32 s = search in
    let is : s ≡ pos 0 = sym (to_z-of_z w32 s fits) ∙ ap (to_z w32) (eqb-true _ 0 zero) in
    parted_at shorts longs place ∙ ap (λ x. value_of x (get_or longs place 0)) is
