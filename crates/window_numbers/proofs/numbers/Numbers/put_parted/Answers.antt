use Rattle.qbf_tokens.proofs.Cited.{◌≡◌, length, arith, rules}
use Rattle.std.proofs.Common.{SFits, w32}
use Rattle.window_numbers.proofs.PutNumbers.{put_both}
use Rattle.window_numbers.proofs.numbers.Numbers.put_parted.Goals as goal

pub returns-clause-put : goal.returns-clause-put
returns-clause-put c =
    let n = c.args.self.now in
    let fits : SFits w32 c.args.number.short = search in
    let shorts : length n.values ≡ 2048 = search rules in
    let longs : length n.longs ≡ 2048 = search rules in
    put_both n.values n.longs c.args.k c.args.number.short c.args.number.long fits (omega (arith, shorts, c.requires.room))
    (omega (arith, longs, c.requires.room))
