use Rattle.std.proofs.Common.{ℕ, ◌≡◌, ◌+◌, ◌-◌, take, drop, length-drop, subst, sym, arith}
use Rattle.std.specs.Str.Parse.{digits_value, AllDigits}
use Rattle.decimal.proofs.Eights.{all_digits, all_value}
use Rattle.decimal.specs.Digits.{IsEight}
use Rattle.decimal.proofs.number.number_with_last.Goals as goal

mid_is : (mid : ℕ) → mid + 8 - 8 ≡ mid
mid_is mid = omega arith

pub returns-clause-digits : goal.returns-clause-digits
returns-clause-digits c =
    let bytes = c.args.bytes.now in
    let mid = c.args.mid in
    let eight = subst (λ m. IsEight bytes m c.args.last) (sym (mid_is mid)) c.requires.last in
    let high = subst (λ m. AllDigits 10 (take (m - c.args.from) (drop c.args.from bytes))) (sym (mid_is mid)) c.in_ok-high.ensures.digits in
    all_digits bytes c.args.from (mid + 8) c.in_ok-high.high c.args.last (omega (arith, c.requires.place, c.requires.sign)) (omega arith)
    (omega (arith, eight.within)) high eight.digits

pub returns-clause-value : goal.returns-clause-value
returns-clause-value c =
    let bytes = c.args.bytes.now in
    let mid = c.args.mid in
    let eight = subst (λ m. IsEight bytes m c.args.last) (sym (mid_is mid)) c.requires.last in
    let high = subst (λ m. c.in_ok-high.high ≡ digits_value 10 (take (m - c.args.from) (drop c.args.from bytes))) (sym (mid_is mid)) c.in_ok-high.ensures.value in
    let sum = all_value bytes c.args.from (mid + 8) c.in_ok-high.high c.args.last (omega (arith, c.requires.place, c.requires.sign)) (omega arith)
    (omega (arith, eight.within)) (omega (arith, eight.within, length-drop (mid + 8 - 8) bytes)) high eight.value_is in
    omega (arith, sum, c.in_ok-shifted.ensures.1, c.in_ok-all.ensures.1)
