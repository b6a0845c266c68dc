use Rattle.qbf_tokens.proofs.Cited.{◌≡◌, ◌-◌, length, arith, rules}
use Rattle.window_numbers.proofs.PutNumbers.{lift, put_lanes}
use Rattle.window_numbers.proofs.numbers.Numbers.put_four.Goals as goal

pub returns-clause-put : goal.returns-clause-put
returns-clause-put c =
    let k = c.args.k in
    let long : length c.args.self.now.values ≡ 2048 = search rules in
    let four : length c.args.values ≡ 4 = omega arith in
    lift c.args.self.now.values _ c.args.self.now.longs c.args.values k c.requires.short
    (put_lanes c.args.self.now.values c.args.values k (2048 - k) (omega (arith, long, c.requires.room)) (omega (arith, four, c.requires.room))
    c.requires.short)
