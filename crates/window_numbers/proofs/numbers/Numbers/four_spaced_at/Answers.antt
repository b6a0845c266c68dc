use Rattle.qbf_tokens.proofs.Cited.{◌≡◌, ◌+◌, ◌≤◌, length, rules, arith, sym, ◌∙◌}
use Rattle.window_numbers.proofs.NumbersInARow.{between_stand, are_all_short, four_ends, EndsGoUp}
use Rattle.window_numbers.proofs.numbers.Numbers.four_spaced_at.Goals as goal

pub returns : goal.returns
returns c =
    let bytes = c.args.bytes.now in
    let n = c.args.self.now in
    let k = c.args.k in
    let starts = c.starts-starts.result in
    let ends = c.ends-ends.result in
    let values = c.in_ok-four.four.values in
    let four : length ends ≡ 4 = search rules in
    let first : length starts ≡ 4 = search rules in
    let all : length values ≡ 4 = omega arith in
    let in_all = c.in_ok-four.ensures.within in
    let up : EndsGoUp ends (length bytes) = record { first = in_all.0; second = in_all.1; third = in_all.2; fourth = in_all.3 } in
    let room : k + 4 ≤ c.args.runs = omega (arith, c.if-k-runs.false) in
    let stand = between_stand bytes n.places starts ends values k (first ∙ sym four) (all ∙ sym four) c.starts-starts.ensures
    c.in_ok-four.ensures.numbers
    (four_ends n bytes ends k four up (c.all_separate.ensures c.if-not-all_separate.false) c.requires.small c.ends-ends.ensures) in
    let short = are_all_short bytes starts ends values (all ∙ sym four) c.in_ok-four.ensures.numbers in
    record { four = (room, stand, short) }
