-- Digits that are read eight at a time.
use Rattle.std.proofs.Common.{ℕ, ◌≡◌, ◌+◌, ◌-◌, ◌*◌, ◌^◌, ◌≤◌, List, [], ◌∷◌, ◌++◌, take, drop, length, refl, sym, ap, ◌∙◌, subst, arith}
use Rattle.std.specs.Char.{digit_value}
use Rattle.std.specs.Str.Parse.{digits_value, digits_value_after, AllDigits}
use Rattle.std.proofs.lemmas.List.{take-take, take_all, take-append-drop, drop-take, drop-drop, length-take-le, length-drop}
use native.Mathlib.Nat.{pow-zero, pow-succ', mul_assoc, add-mul}

all_append : (xs ys : List ℕ) → AllDigits 10 xs → AllDigits 10 ys → AllDigits 10 (xs ++ ys)
all_append [] ys h k = k
all_append (x ∷ xs) ys h k = (h.0, all_append xs ys h.1 k)

after_append : (n : ℕ) (xs ys : List ℕ) → digits_value_after 10 n (xs ++ ys) ≡ digits_value_after 10 (digits_value_after 10 n xs) ys
after_append n [] ys = refl
after_append n (x ∷ xs) ys = after_append (n * 10 + digit_value x) xs ys

-- digits that follow a value: the value times a power of ten, and the value of the digits
after_more : (n : ℕ) (ys : List ℕ) → digits_value_after 10 n ys ≡ n * 10 ^ length ys + digits_value 10 ys
after_more n [] = omega (arith, ap (λ x. n * x) (pow-zero 10))
after_more n (y ∷ ys) =
    let d = digit_value y in
    let p = 10 ^ length ys in
    let alone : 0 * 10 + d ≡ d = omega arith in
    let here : digits_value 10 (y ∷ ys) ≡ d * p + digits_value 10 ys = ap (λ m. digits_value_after 10 m ys) alone ∙ after_more d ys in
    let all : digits_value_after 10 n (y ∷ ys) ≡ (n * 10 + d) * p + digits_value 10 ys = after_more (n * 10 + d) ys in
    omega (arith, here, all, add-mul (n * 10) d p, mul_assoc n 10 p, ap (λ x. n * x) (pow-succ' 10 (length ys)))

-- eight digits, and those before them
module _ (bytes : List ℕ) (from end high low : ℕ) (after : from ≤ end - 8) (long : 8 ≤ end) (inside : end - 8 ≤ length bytes) where
  abbrev mid : ℕ
  mid = end - 8

  abbrev rest : List ℕ
  rest = take (length bytes - mid) (drop mid bytes)

  abbrev highs : List ℕ
  highs = take (mid - from) (drop from bytes)

  last : take (8 - 0) (drop 0 rest) ≡ take 8 (drop mid bytes)
  last = ap (λ l. take 8 l) (take_all (length bytes - mid) (drop mid bytes) (omega (arith, length-drop mid bytes)))

  parts : take (end - from) (drop from bytes) ≡ highs ++ take 8 (drop mid bytes)
  parts =
      let sum : end - from ≡ mid - from + 8 = omega (arith, after, long) in
      let place : from + (mid - from) ≡ mid = omega (arith, after) in
      ap (λ k. take k (drop from bytes)) sum
      ∙ sym (take-append-drop (mid - from) (take (mid - from + 8) (drop from bytes)))
      ∙ ap (λ l. l ++ drop (mid - from) (take (mid - from + 8) (drop from bytes)))
      (take-take (mid - from) (mid - from + 8) (drop from bytes) (omega arith))
      ∙ ap (λ l. highs ++ l) (drop-take (mid - from) 8 (drop from bytes))
      ∙ ap (λ l. highs ++ take 8 l) (drop-drop (mid - from) from bytes ∙ ap (λ k. drop k bytes) (omega (arith, place)))

  abbrev lows : List ℕ
  lows = take 8 (drop mid bytes)

  pub all_digits : AllDigits 10 highs → AllDigits 10 lows → AllDigits 10 (take (end - from) (drop from bytes))
  all_digits h l = subst (AllDigits 10) (sym parts) (all_append highs lows h l)

  pub all_value : 8 ≤ length (drop mid bytes) → high ≡ digits_value 10 highs → low ≡ digits_value 10 lows
      → high * 100000000 + low ≡ digits_value 10 (take (end - from) (drop from bytes))
  all_value enough h l =
      let eight : length lows ≡ 8 = length-take-le 8 (drop mid bytes) enough in
      let value : digits_value 10 (take (end - from) (drop from bytes)) ≡ digits_value_after 10 (digits_value 10 highs) lows =
      ap (digits_value 10) parts ∙ after_append 0 highs lows in
      let same : digits_value_after 10 (digits_value 10 highs) lows ≡ digits_value_after 10 high lows =
      ap (λ n. digits_value_after 10 n lows) (sym h) in
      let more : digits_value_after 10 high lows ≡ high * 100000000 + digits_value 10 lows =
      after_more high lows ∙ ap (λ n. high * 10 ^ n + digits_value 10 lows) eight in
      omega (arith, value, same, more, l)

  module _ (enough : 8 ≤ length rest) where
    pub both_digits : AllDigits 10 highs → AllDigits 10 (take (8 - 0) (drop 0 rest)) → AllDigits 10 (take (end - from) (drop from bytes))
    both_digits h l = all_digits h (subst (AllDigits 10) last l)

    pub both_value : high ≡ digits_value 10 highs → low ≡ digits_value 10 (take (8 - 0) (drop 0 rest))
        → high * 100000000 + low ≡ digits_value 10 (take (end - from) (drop from bytes))
    both_value h l =
        all_value (subst (λ r. 8 ≤ length r) (take_all (length bytes - mid) (drop mid bytes) (omega (arith, length-drop mid bytes))) enough) h
        (l ∙ ap (digits_value 10) last)
