-- How many digits a number has.
use Rattle.std.proofs.Common.{ℕ, zero, suc, ◌≡◌, ◌≤◌, ◌<◌, ◌+◌, ◌*◌, ◌/◌, ◌%◌, ◌^◌, ◌∙◌, [], ◌∷◌, length, arith, ap, decimal, length-append}
use Rattle.std.proofs.lemmas.Fmt.{decimal_step}
use Rattle.itoa.proofs.Decimal.{length_one}
use native.Mathlib.Nat.{pow-succ'}

some_power : (k : ℕ) → 1 ≤ 10 ^ k
some_power zero = omega arith
some_power (suc k) = omega (arith, pow-succ' 10 k, some_power k)

-- a number from a power of ten on and below the next one
pub counted : (k n : ℕ) → 10 ^ k ≤ n → n < 10 * 10 ^ k → n < 2 ^ 64 → length (decimal n) ≡ k + 1
counted zero n lo hi small = length_one n (omega (arith, hi))
counted (suc k) n lo hi small =
    let more = pow-succ' 10 k in
    let ten : 10 ≤ n = omega (arith, more, some_power k, lo) in
    let step : length (decimal n) ≡ length (decimal (n / 10)) + 1 =
    ap length (decimal_step n ten small) ∙ length-append (decimal (n / 10)) ((48 + n % 10) ∷ []) in
    omega (arith, step, counted k (n / 10) (omega (arith, more, lo)) (omega (arith, more, hi)) (omega (arith, small)))

-- how many digits a number has between two powers of ten
pub two : (n : ℕ) → 10 ≤ n → n < 100 → length (decimal n) ≡ 2
two n lo hi = omega (arith, counted 1 n (omega (arith, lo)) (omega (arith, hi)) (omega (arith, hi)))

pub three : (n : ℕ) → 100 ≤ n → n < 1000 → length (decimal n) ≡ 3
three n lo hi = omega (arith, counted 2 n (omega (arith, lo)) (omega (arith, hi)) (omega (arith, hi)))

pub four : (n : ℕ) → 1000 ≤ n → n < 10000 → length (decimal n) ≡ 4
four n lo hi = omega (arith, counted 3 n (omega (arith, lo)) (omega (arith, hi)) (omega (arith, hi)))

pub five : (n : ℕ) → 10000 ≤ n → n < 100000 → length (decimal n) ≡ 5
five n lo hi = omega (arith, counted 4 n (omega (arith, lo)) (omega (arith, hi)) (omega (arith, hi)))

pub six : (n : ℕ) → 100000 ≤ n → n < 1000000 → length (decimal n) ≡ 6
six n lo hi = omega (arith, counted 5 n (omega (arith, lo)) (omega (arith, hi)) (omega (arith, hi)))

pub seven : (n : ℕ) → 1000000 ≤ n → n < 10000000 → length (decimal n) ≡ 7
seven n lo hi = omega (arith, counted 6 n (omega (arith, lo)) (omega (arith, hi)) (omega (arith, hi)))

pub eight : (n : ℕ) → 10000000 ≤ n → n < 100000000 → length (decimal n) ≡ 8
eight n lo hi = omega (arith, counted 7 n (omega (arith, lo)) (omega (arith, hi)) (omega (arith, hi)))
