use Rattle.std.proofs.Common.{rules, ◌≡◌, ◌<◌, ◌^◌, length, sym, subst}
use Rattle.std.specs.Simd.Lanes.{Each1}
use Rattle.window_numbers.proofs.LaneSteps.{eights}
use Rattle.window_numbers.proofs.FourValues.{values_small, numbers_are, zeros_are}
use Rattle.window_numbers.proofs.four.read_four.Goals as goal

pub signed-requires : goal.signed-requires
signed-requires c =
    let x = c.args in
    let small = c.all_below_ten.ensures c.if-not-all_below_ten.false in
    let a = c.two_at-a.ensures small.0 in
    let b = c.two_at-b.ensures small.1 in
    subst (Each1 (λ v. v < 2 ^ 31)) (sym c.four_eights-values.ensures)
    (values_small x.bytes.now x.starts x.ends (eights c.two_at-a.result.fours) c.two_at-a.result.signs (eights c.two_at-b.result.fours) c.two_at-b.result.signs
    (c.requires.first, a.0) (c.requires.second, a.1) (c.requires.third, b.0) (c.requires.fourth, b.1))

pub returns-clause-numbers : goal.returns-clause-numbers
returns-clause-numbers c =
    let x = c.args in
    let small = c.all_below_ten.ensures c.if-not-all_below_ten.false in
    let a = c.two_at-a.ensures small.0 in
    let b = c.two_at-b.ensures small.1 in
    let long : length c.args.ends ≡ 4 = search rules in
    numbers_are x.bytes.now x.starts x.ends (eights c.two_at-a.result.fours) c.two_at-a.result.signs (eights c.two_at-b.result.fours) c.two_at-b.result.signs
    (c.requires.first, a.0) (c.requires.second, a.1) (c.requires.third, b.0) (c.requires.fourth, b.1) c.four_eights-values.result c.low_halves-signs.result c.signed.result
    c.four_eights-values.ensures c.low_halves-signs.ensures c.signed.ensures long (c.signs_of_zeros.ensures small.2)

pub returns-clause-zeros : goal.returns-clause-zeros
returns-clause-zeros c =
    let x = c.args in
    let small = c.all_below_ten.ensures c.if-not-all_below_ten.false in
    let a = c.two_at-a.ensures small.0 in
    let b = c.two_at-b.ensures small.1 in
    zeros_are x.bytes.now x.starts x.ends (eights c.two_at-a.result.fours) c.two_at-a.result.signs (eights c.two_at-b.result.fours) c.two_at-b.result.signs
    (c.requires.first, a.0) (c.requires.second, a.1) (c.requires.third, b.0) (c.requires.fourth, b.1) c.four_eights-values.result c.low_halves-signs.result c.signed.result
    c.four_eights-values.ensures c.low_halves-signs.ensures c.signed.ensures
