-- A list of digits with one digit more.
use Rattle.std.proofs.Common.{ℕ, List, ◌≡◌, ◌+◌, ◌-◌, ◌*◌, ◌<◌, length, take, get_or, arith}
use Rattle.std.specs.Str.Parse.{digits_value, AllDigits}
use Rattle.std.specs.Char.{digit_value}
use Rattle.std.specs.Int.{IsInRange}
use Rattle.std.proofs.lemmas.Int.Digits.{digits_more, digits_value_more}
use Rattle.std.proofs.lemmas.Str.{digit_value_digit}

-- the list and its value
pub one_more : (r : List ℕ) (i : ℕ) → i < length r → AllDigits 10 (take i r) → IsInRange 48 57 (get_or r i 0)
    → AllDigits 10 (take (i + 1) r) × (digits_value 10 (take (i + 1) r) ≡ digits_value 10 (take i r) * 10 + (get_or r i 0 - 48))
one_more r i within before here =
    let is : digit_value (get_or r i 0) + 48 ≡ get_or r i 0 = digit_value_digit (get_or r i 0) here in
    (digits_more 10 r i within before (omega arith), omega (arith, digits_value_more 10 r i within))
