use Rattle.qbf_tokens.proofs.Cited.{◌≡◌, sym, ap, ◌∙◌}
use Rattle.window_numbers.proofs.Cited.{get_or}
use Rattle.std.specs.Prelude.{ℤ, negsuc}
use Rattle.std.proofs.Common.{SFits, w32, to_z, of_z}
use Rattle.std.proofs.lemmas.Int.{to_z-of_z}
use Rattle.qbf_tokens.specs.NumberTokens.{token_of}
use Rattle.window_numbers.specs.Values.{value_of}
use Rattle.window_numbers.proofs.PartedNumbers.{long_token, minus_token, parted_at}
use Rattle.window_numbers.proofs.values.Values.marked_token.Goals as goal

mark_is : (s : ℤ) → SFits w32 s → of_z w32 s ≡ 2147483648 → s ≡ negsuc 2147483647
mark_is s fits is = sym (to_z-of_z w32 s fits) ∙ ap (to_z w32) is

pub returns-then-short-eq-LONG : goal.returns-then-short-eq-LONG
returns-then-short-eq-LONG c =
    let shorts = c.args.self.short.now in
    let longs = c.args.self.long.now in
    let place = c.args.place in
    let s = c.args.short in
    let fits : SFits w32 s = search in
    rw c.long_at.ensures (long_token s (get_or longs place 0) (mark_is s fits c.if-short-eq-LONG.true)
    ∙ ap (λ v. token_of v) (sym (ap (λ x. value_of x (get_or longs place 0)) c.requires.short))
    ∙ ap token_of (sym (parted_at shorts longs place)))

pub returns : goal.returns
returns c =
    let shorts = c.args.self.short.now in
    let longs = c.args.self.long.now in
    let place = c.args.place in
    let s = c.args.short in
    let fits : SFits w32 s = search in
    rw (c.from.ensures, c.unsigned_abs.ensures.value, to_z-of_z w32 s fits)
    (minus_token s (get_or longs place 0) c.requires.negative (λ e. c.if-short-eq-LONG.false (ap (of_z w32) e))
    ∙ ap (λ v. token_of v) (sym (ap (λ x. value_of x (get_or longs place 0)) c.requires.short))
    ∙ ap token_of (sym (parted_at shorts longs place)))
