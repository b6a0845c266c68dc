-- A word by its list of bytes: `^`, `<<`, and the digits at its front.
use Rattle.std.proofs.Common.{rules, ℕ, zero, suc, ◌≡◌, ◌+◌, ◌*◌, ◌%◌, ◌^◌, ◌<◌, ◌≤◌, true, cond, List, [], ◌∷◌, ◌++◌, map, take, replicate}
use Rattle.std.proofs.Common.{length, arith, bit_xor, refl, sym, ap, ap₂, ◌∙◌, inl, inr, w64, ltb-true, lt-ltb, pow-add}
use Rattle.std.proofs.lemmas.Grind.{common_steps}
use Rattle.std.specs.List.{prefix_len}
use Rattle.std.specs.Char.{is_ascii_digit, digit_value}
use Rattle.std.specs.Int.{to_le_bytes, from_le_bytes}
use Rattle.std.specs.Int.Digits.{number_from_digits, number_from_digits_after, AllBelowBase}
use Rattle.std.proofs.lemmas.Bool.{agree_below_at, cond-true, cond-false, cases_Bool}
use Rattle.std.proofs.lemmas.Nat.{xor_block, xor_lt, mod_low, shl_below, from_le_bytes-to_le_bytes_8}
use Rattle.std.proofs.lemmas.Int.Digits.{number_after_append}
use Rattle.decimal.specs.Word.{word}
use Rattle.decimal.proofs.Masks.{splat, wide, Bytes, is_small}

pub wide_is : (n : ℕ) → wide n ≡ n * 8
wide_is zero = refl
wide_is (suc n) = omega (arith, wide_is n)

pub word_lt : (xs : List ℕ) → Bytes xs → word xs < 2 ^ wide (length xs)
unfolding word
word_lt [] h = omega arith
word_lt (x ∷ xs) h = omega (arith, word_lt xs h.1, pow-add 2 (wide (length xs)) 8, h.0)

pub word_append : (xs ys : List ℕ) → word (xs ++ ys) ≡ word ys * 2 ^ wide (length xs) + word xs
unfolding word
word_append [] ys = omega arith
word_append (x ∷ xs) ys =
    let turn : word ys * 2 ^ (wide (length xs) + 8) ≡ word ys * 2 ^ wide (length xs) * 256 =
    ap (λ k. word ys * k) (pow-add 2 (wide (length xs)) 8) ∙ omega arith in
    omega (arith, word_append xs ys, turn)

pub word_zeros : (z : ℕ) → word (replicate z 0) ≡ 0
unfolding word
word_zeros zero = refl
word_zeros (suc z) = omega (arith, word_zeros z)

-- ---- `w ^ 0x3030303030303030`, byte by byte
abbrev pub turned : ℕ → ℕ
turned b = bit_xor b 48

pub xored : (bs : List ℕ) → Bytes bs → bit_xor (word bs) (splat 48 (length bs)) ≡ word (map turned bs)
unfolding word
xored [] h = refl
xored (b ∷ bs) h =
    xor_block 8 (word bs) (splat 48 (length bs)) b 48 h.0 (omega arith) ∙ ap (λ k. k * 256 + turned b) (xored bs h.1)

pub turned_bytes : (bs : List ℕ) → Bytes bs → Bytes (map turned bs)
turned_bytes [] h = tt
turned_bytes (b ∷ bs) h = (xor_lt 8 b 48 h.0 (omega arith), turned_bytes bs h.1)

-- at each of the 256 bytes, by computing
pub turned_small : (b : ℕ) → b < 256 → is_small (turned b) ≡ is_ascii_digit b
turned_small b fits = agree_below_at (λ x. is_small (turned x)) is_ascii_digit 256 b refl fits

pub turned_value : (b : ℕ) → b < 256 → is_ascii_digit b ≡ true → turned b ≡ digit_value b
turned_value b fits digit = grind (arith, common_steps)

pub turned_run : (bs : List ℕ) → Bytes bs → prefix_len is_small (map turned bs) ≡ prefix_len is_ascii_digit bs
turned_run [] h = refl
turned_run (b ∷ bs) h = ap₂ (λ t k. cond t (1 + k) 0) (turned_small b h.0) (turned_run bs h.1)

-- ---- a front of n digits
pub front : (n : ℕ) (bs : List ℕ) → Bytes bs → n ≤ prefix_len is_ascii_digit bs
    → (take n (map turned bs) ≡ map digit_value (take n bs)) × AllBelowBase 10 (take n (map turned bs))
front zero bs h e = (refl, tt)
front (suc n) [] h e = absurd (omega arith)
front (suc n) (b ∷ bs) h e =
    elim (cases_Bool (is_ascii_digit b)) [
      | inl digit ↦
          let p : prefix_len is_ascii_digit (b ∷ bs) ≡ 1 + prefix_len is_ascii_digit bs = cond-true _ _ _ digit in
          let rest = front n bs h.1 (omega (arith, e, p)) in
          let small : is_small (turned b) ≡ true = turned_small b h.0 ∙ digit in
          (ap₂ (λ x xs. x ∷ xs) (turned_value b h.0 digit) rest.0, (ltb-true _ _ small, rest.1))
      | inr other ↦
          let p : prefix_len is_ascii_digit (b ∷ bs) ≡ 0 = cond-false _ _ _ other in
          absurd (omega (arith, e, p))
    ]

-- bytes that `^` makes digits of are ASCII digits
pub turned_digits : (n : ℕ) (bs : List ℕ) → Bytes bs → n ≤ length bs → AllBelowBase 10 (take n (map turned bs)) → n ≤ prefix_len is_ascii_digit bs
turned_digits zero bs h few below = omega arith
turned_digits (suc n) [] h few below = absurd (omega (arith, few))
turned_digits (suc n) (b ∷ bs) h few below =
    let digit : is_ascii_digit b ≡ true = sym (turned_small b h.0) ∙ lt-ltb (turned b) 10 below.0 in
    let p : prefix_len is_ascii_digit (b ∷ bs) ≡ 1 + prefix_len is_ascii_digit bs = cond-true _ _ _ digit in
    omega (arith, p, turned_digits n bs h.1 (omega (arith, few)) below.1)

pub after_zeros : (z : ℕ) (ds : List ℕ) → AllBelowBase 10 (replicate z 0 ++ ds) → AllBelowBase 10 ds
after_zeros zero ds h = h
after_zeros (suc z) ds h = after_zeros z ds h.1

-- ---- zeros before the digits
pub zeros_value : (z : ℕ) → number_from_digits_after 10 0 (replicate z 0) ≡ 0
zeros_value zero = refl
zeros_value (suc z) = zeros_value z

pub zeros_before : (z : ℕ) (ds : List ℕ) → number_from_digits 10 (replicate z 0 ++ ds) ≡ number_from_digits 10 ds
zeros_before z ds = number_after_append 10 0 (replicate z 0) ds ∙ ap (λ k. number_from_digits_after 10 k ds) (zeros_value z)

pub zeros_below : (z : ℕ) (ds : List ℕ) → AllBelowBase 10 ds → AllBelowBase 10 (replicate z 0 ++ ds)
zeros_below zero ds h = h
zeros_below (suc z) ds h = (omega arith, zeros_below z ds h)

-- ---- `t << k`: the low bytes move to the top
pub shifted : (h l i k : ℕ) → l < 2 ^ i → i + k ≡ 64 → (h * 2 ^ i + l) * 2 ^ k % 2 ^ 64 ≡ l * 2 ^ k
shifted h l i k low e =
    let whole : 2 ^ 64 ≡ 2 ^ i * 2 ^ k = ap (λ j. 2 ^ j) (sym e) ∙ pow-add 2 i k in
    let out : (h * 2 ^ i + l) * 2 ^ k ≡ h * (2 ^ i * 2 ^ k) + l * 2 ^ k = omega arith in
    let apart : (h * 2 ^ i + l) * 2 ^ k ≡ h * 2 ^ 64 + l * 2 ^ k = out ∙ ap (λ j. h * j + l * 2 ^ k) (sym whole) in
    let fits : l * 2 ^ k < 2 ^ 64 = rw e at (shl_below l i k low) in
    ap (λ j. j % 2 ^ 64) apart ∙ mod_low h 64 (l * 2 ^ k) fits

-- ---- the eight bytes of a word
horner : (b0 b1 b2 b3 b4 b5 b6 b7 : ℕ)
    → word (b0 ∷ b1 ∷ b2 ∷ b3 ∷ b4 ∷ b5 ∷ b6 ∷ b7 ∷ []) ≡ from_le_bytes w64 (b0 ∷ b1 ∷ b2 ∷ b3 ∷ b4 ∷ b5 ∷ b6 ∷ b7 ∷ [])
unfolding word
horner b0 b1 b2 b3 b4 b5 b6 b7 = omega arith

pub word_bytes : (w : ℕ) → w < 2 ^ 64 → word (to_le_bytes w64 w) ≡ w
word_bytes w fits = horner _ _ _ _ _ _ _ _ ∙ from_le_bytes-to_le_bytes_8 w fits

pub bytes_fit : (w : ℕ) → Bytes (to_le_bytes w64 w)
bytes_fit w = search rules

pub spread : (b0 b1 b2 b3 b4 b5 b6 b7 : ℕ) → word (b0 ∷ b1 ∷ b2 ∷ b3 ∷ b4 ∷ b5 ∷ b6 ∷ b7 ∷ [])
    ≡ ((((((b7 * 256 + b6) * 256 + b5) * 256 + b4) * 256 + b3) * 256 + b2) * 256 + b1) * 256 + b0
unfolding word
spread b0 b1 b2 b3 b4 b5 b6 b7 = omega arith
