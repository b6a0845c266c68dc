use Rattle.window_numbers.proofs.Cited.{subst}
use Rattle.window_numbers.specs.Numbers.{IsGapTo, place}
use Rattle.window_numbers.proofs.Gaps.{gap_on}
use Rattle.window_numbers.proofs.numbers.Numbers.start.Goals as goal

pub returns : goal.returns
returns c =
    let bytes = c.args.bytes.now in
    let mid = c.after_separator-second.result in
    gap_on bytes (place c.args.self.now c.args.k) mid c.after_separator.result
    (subst (λ from. IsGapTo bytes from mid) c.from-first.ensures c.after_separator-second.ensures) c.after_separator.ensures
