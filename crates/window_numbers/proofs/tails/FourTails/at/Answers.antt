use Rattle.qbf_tokens.proofs.Cited.{◌≡◌, length, refl, rules, arith, sym, ◌∙◌}
use Rattle.window_numbers.proofs.PutNumbers.{lanes_are}
use Rattle.window_numbers.proofs.NumbersInARow.{are_all_short, four_ends, EndsGoUp}
use Rattle.window_numbers.proofs.tails.FourTails.at.Goals as goal

pub returns : goal.returns
returns c =
    let bytes = c.args.bytes.now in
    let n = c.args.numbers.now in
    let k = c.args.k in
    let starts = c.four_starts-starts.result in
    let tails = c.four_tails-tails.result in
    let ends = c.ends-ends.result in
    let values = c.in_ok-four.four.values in
    let numbers = c.in_ok-four.ensures.numbers in
    let four : length ends ≡ 4 = search rules in
    let first : length starts ≡ 4 = search rules in
    let all : length values ≡ 4 = omega arith in
    let in_all = c.in_ok-four.ensures.within in
    let up : EndsGoUp ends (length bytes) = record { first = in_all.0; second = in_all.1; third = in_all.2; fourth = in_all.3 } in
    let there = four_ends n bytes ends k four up (c.all_separate.ensures c.if-not-all_separate.false) c.requires.small c.ends-ends.ensures in
    let short = are_all_short bytes tails ends values (all ∙ sym four) numbers in (
      omega (arith, c.if-k-runs.false),
      refl,
      rw (lanes_are values short) (record {
        tails = record {
          tails = c.four_tails-tails.ensures;
          numbers = λ i less. numbers i (omega (arith, less, four));
          within = λ i less. (there i (omega (arith, less, four))).within;
          separate = λ i less. (there i (omega (arith, less, four))).separates;
        };
        gaps = λ i less. c.four_starts-starts.ensures i (omega (arith, less, first));
        next = λ i less. (there i (omega (arith, less, four))).next;
      }),
    )
