-- Numbers as they are written are read again.
use Rattle.qbf_tokens.proofs.Cited.{common_steps, rules, ◌≡◌, ℕ, ◌+◌, ◌-◌, ◌*◌, ◌^◌, ◌<◌, Bool, true, false, ◌&&◌, ◌==◌, List, [], ◌∷◌}
use Rattle.qbf_tokens.proofs.Cited.{length, Some, refl, ap, arith, all_ascii_digits, is_ascii_digit, digits_decimal, decimal_nonempty}
use Rattle.qbf_tokens.proofs.Cited.{nat_tests, Comments, magnitude, numeral, number, kind, is_separator, IsUnbroken}
use Rattle.std.proofs.Common.{fold}
use Rattle.std.specs.Prelude.{decimal}
use Rattle.std.proofs.lemmas.Str.Parse.{IsNumeralModel, numerals_by_fold, tells_all_ascii_digits}
use Rattle.std.proofs.lemmas.Fmt.{digits_value-decimal}
use Rattle.qbf_tokens.proofs.ByteByByte.{IsToken}
use Rattle.qbf_tokens.specs.declared.token.Token.TheVariants as kinds

pub own : IsNumeralModel (λ ds. all_ascii_digits ds ≡ true) magnitude
own = numerals_by_fold _ tells_all_ascii_digits (λ n ds. fold (λ m digit. 10 * m + (digit - 48)) n ds)
    (record { empty = λ n. refl; more = λ n c cs h. ap (λ m. fold (λ m digit. 10 * m + (digit - 48)) (m + (c - 48)) cs) (omega arith) })

-- ---- digits are text

digit_unbroken : (b : ℕ) → is_ascii_digit b ≡ true → is_separator b ≡ false
digit_unbroken b h = grind (arith, nat_tests)

pub digit_no_minus : (b : ℕ) → is_ascii_digit b ≡ true → (b == 45) ≡ false
digit_no_minus b h = grind (arith, nat_tests)

pub and_left : (x y : Bool) → (x && y) ≡ true → x ≡ true
and_left x y h = search rules

and_right : (x y : Bool) → (x && y) ≡ true → y ≡ true
and_right x y h = search rules

pub digits_unbroken : (ds : List ℕ) → all_ascii_digits ds ≡ true → IsUnbroken ds
digits_unbroken [] h = tt
digits_unbroken (d ∷ ds) h = (
  digit_unbroken d (and_left (is_ascii_digit d) (all_ascii_digits ds) h),
  digits_unbroken ds (and_right (is_ascii_digit d) (all_ascii_digits ds) h),
)

-- ---- the kind of digits

numeral_small : (negative : Bool) (ds : List ℕ) → 0 < length ds → all_ascii_digits ds ≡ true → magnitude ds < 2 ^ 64
    → (negative && (magnitude ds == 0)) ≡ false → numeral negative ds ≡ Some (kinds.Number negative (magnitude ds))
numeral_small negative ds h k e m = search rules

number_plain : (ds : List ℕ) → 0 < length ds → all_ascii_digits ds ≡ true → number ds ≡ numeral false ds
number_plain ds some all = grind (arith, common_steps)

pub kind_decimal : (n : ℕ) → n < 2 ^ 64 → kind (decimal n) ≡ kinds.Number false n
kind_decimal n small = grind (arith, common_steps, decimal_nonempty, digits_decimal, own, digits_value-decimal, number_plain, numeral_small)

pub kind_minus : (n : ℕ) → 0 < n → n < 2 ^ 64 → kind (45 ∷ decimal n) ≡ kinds.Number true n
kind_minus n positive small = search (rules, decimal_nonempty, digits_decimal, own, digits_value-decimal, nat_tests, numeral_small)

-- ---- a number in a text

pub token_digits : (f : Comments) (begun : Bool) (ds : List ℕ) → 0 < length ds → all_ascii_digits ds ≡ true → IsToken f begun ds
token_digits f begun ds h k = search rules
