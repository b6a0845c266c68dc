use Rattle.qbf_tokens.proofs.Cited.{◌≡◌, ◌+◌, ◌≤◌, length, sym, rules, arith}
use Rattle.window_numbers.proofs.Gaps.{no_gap}
use Rattle.window_numbers.proofs.NumbersInARow.{row_stands, ends_go_up, are_short, four_ends}
use Rattle.window_numbers.proofs.numbers.Numbers.four_at.Goals as goal

pub all_separate-requires : goal.all_separate-requires
all_separate-requires c = search (rules, ends_go_up)

pub returns : goal.returns
returns c =
    let bytes = c.args.bytes.now in
    let n = c.args.self.now in
    let k = c.args.k in
    let four : length c.ends-ends.result ≡ 4 = search rules in
    let begin = c.begin-begin.result in
    let up = ends_go_up bytes begin c.ends-ends.result (length bytes) c.in_ok-four.four.values four
    c.in_ok-four.ensures.numbers c.in_ok-four.ensures.within in
    let room : k + 4 ≤ c.args.runs = omega (arith, c.if-k-runs.false) in
    let stand = row_stands bytes n.places c.ends-ends.result c.in_ok-four.four.values k begin (rw (sym c.begin-begin.ensures) (no_gap bytes begin))
    c.in_ok-four.ensures.numbers
    (four_ends n bytes c.ends-ends.result k four up (c.all_separate.ensures c.if-not-all_separate.false) c.requires.small
    c.ends-ends.ensures) in
    let short = are_short bytes begin c.ends-ends.result c.in_ok-four.four.values c.in_ok-four.ensures.numbers in
    record { four = (room, stand, short) }
