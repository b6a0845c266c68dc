use Rattle.qbf_tokens.proofs.Cited.{◌+◌, arith}
use Rattle.window_numbers.proofs.Cited.{subst}
use Rattle.std.proofs.Common.{SFits, w32}
use Rattle.std.proofs.lemmas.Int.{to_z-of_z}
use Rattle.window_numbers.specs.Numbers.{IsGapTo, place}
use Rattle.window_numbers.proofs.Gaps.{comes}
use Rattle.window_numbers.proofs.numbers.Numbers.one_spaced_at.Goals as goal

pub returns-clause-stands : goal.returns-clause-stands
returns-clause-stands c =
    let n = c.args.self.now in
    let k = c.args.k in
    let bytes = c.args.bytes.now in
    let value = c.in_ok-value.value in
    let fits : SFits w32 value = search in
    let gap = subst (λ from. IsGapTo bytes from c.after_separators-at.result) c.from-first.ensures c.after_separators-at.ensures.gap in
    let number = comes bytes (place n k) c.after_separators-at.result (place n (k + 1)) value gap c.after_separators-at.ensures.within
    c.in_ok-value.ensures.begins in
    (omega (arith, c.if-k-runs.false), rw (to_z-of_z w32 value fits) (c.in_ok-value.ensures.within, number))
