use Rattle.qbf_tokens.proofs.Cited.{sym, ap, ◌∙◌}
use Rattle.window_numbers.proofs.Cited.{get_or}
use Rattle.std.specs.Prelude.{pos}
use Rattle.std.proofs.Common.{SFits, w32}
use Rattle.std.proofs.lemmas.Int.{to_z-of_z}
use Rattle.qbf_tokens.specs.NumberTokens.{token_of}
use Rattle.window_numbers.proofs.PartedNumbers.{parted_at, plain_token}
use Rattle.window_numbers.proofs.values.Values.token.Goals as goal

pub returns : goal.returns
returns c =
    let shorts = c.args.self.short.now in
    let longs = c.args.self.long.now in
    let place = c.args.place in
    let s = get_or shorts place (pos 0) in
    let fits : SFits w32 s = search in
    rw (to_z-of_z w32 s fits) (plain_token s (get_or longs place 0) (rw (to_z-of_z w32 s fits) at c.if-short-lt0.false)
    ∙ ap token_of (sym (parted_at shorts longs place)))
