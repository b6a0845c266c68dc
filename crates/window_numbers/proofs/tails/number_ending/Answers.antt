use Rattle.qbf_tokens.proofs.Cited.{◌≡◌, ◌+◌, ◌<◌, ◌≤◌, ◌^◌, ◌&&◌, false, sym, ◌∙◌, arith}
use Rattle.window_numbers.proofs.Cited.{nat_eq, get_or}
use Rattle.window_numbers.proofs.BufferedNumber.{found, one_at_most}
use Rattle.window_numbers.proofs.tails.number_ending.Goals as goal

pub returns : goal.returns
returns c =
    let bytes = c.args.bytes.now in
    let negative = c.begins_with_minus-negative.result in
    let start = c.from-start.result in
    let end = c.args.mid + 8 in
    let m = c.in_ok-magnitude.magnitude in
    let d = c.in_ok-magnitude.ensures in
    let fits : m < 2 ^ 64 = search in
    let one : start ≤ 1 = one_at_most _ _ c.from-start.ensures in
    let nonzero : (negative && nat_eq m 0) ≡ false = sym c.is_minus_zero.ensures ∙ c.if-is_minus_zero.false in
    let stands = found bytes negative start m end c.begins_with_minus-negative.ensures (omega (arith, one)) fits d.digits d.value
    (λ e. omega (arith, one, e)) c.requires.within nonzero c.requires.separator c.from-start.ensures in
    (nat_eq (get_or bytes end 0) 10, rw (c.in_ok-number.ensures.sign nonzero, c.in_ok-number.ensures.magnitude) stands)
