use Rattle.qbf_tokens.proofs.Cited.{◌≡◌, length, arith, rules}
use Rattle.std.proofs.Common.{SFits, w32}
use Rattle.window_numbers.proofs.PutNumbers.{lift, put_alone}
use Rattle.window_numbers.proofs.numbers.Numbers.put.Goals as goal

pub returns-clause-put : goal.returns-clause-put
returns-clause-put c =
    let n = c.args.self.now in
    let fits : SFits w32 c.args.value = search in
    let long : length n.values ≡ 2048 = search rules in
    lift n.values _ n.longs _ c.args.k (c.requires.short, tt) (put_alone n.values c.args.k c.args.value fits (omega (arith, long, c.requires.room)))
