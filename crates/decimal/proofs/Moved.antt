-- The first digits of a word, moved to its top.
use Rattle.std.proofs.Common.{ℕ, zero, suc, ◌≡◌, ◌+◌, ◌-◌, ◌*◌, ◌/◌, ◌%◌, ◌^◌, ◌<◌, ◌≤◌, min, List, [], ◌∷◌, ◌++◌, map, take, drop}
use Rattle.std.proofs.Common.{replicate, length, length-append, arith, bit_xor, refl, sym, ap, ap₂, ◌∙◌, subst}
use lib.Count.{count_trailing_zeros}
use Rattle.std.specs.List.{prefix_len}
use Rattle.std.specs.Char.{is_ascii_digit}
use Rattle.std.specs.Int.{w64, to_le_bytes}
use Rattle.std.specs.Int.Digits.{number_from_digits, AllBelowBase}
use Rattle.std.specs.Str.Parse.{digits_value}
use Rattle.std.proofs.lemmas.List.{length-take, length-drop, length-replicate, take-append-drop}
use Rattle.std.proofs.lemmas.Nat.{shr_high, shr_below}
use Rattle.std.proofs.Math.Nat.{pow-le-pow_right}
use Rattle.std.proofs.lemmas.List.Sums.{prefix_len-le-length}
use Rattle.std.proofs.lemmas.Int.Digits.{digits_value_is}
use Rattle.decimal.specs.Word.{word}
use Rattle.decimal.proofs.Masks.{splat, wide, Bytes, marks, first_mark}
use Rattle.decimal.proofs.Lists.{wide_is, word_lt, word_append, word_zeros, turned, xored, turned_bytes, turned_run, front, zeros_before}
use Rattle.decimal.proofs.Lists.{turned_digits, after_zeros, zeros_below, shifted, word_bytes, bytes_fit}

pub turned_word : (w : ℕ) → w < 2 ^ 64 → bit_xor w (splat 48 8) ≡ word (map turned (to_le_bytes w64 w))
turned_word w fits = ap (λ k. bit_xor k (splat 48 8)) (sym (word_bytes w fits)) ∙ xored (to_le_bytes w64 w) (bytes_fit w)

eighth : (x p k : ℕ) → x ≡ min (p * 8 + 7) 64 → p ≡ k → k ≤ 8 → x / 8 ≡ k
eighth x p k is same few = omega arith

pub run_is : (w : ℕ) → w < 2 ^ 64
    → count_trailing_zeros 64 (marks 8 (bit_xor w (splat 48 8))) / 8 ≡ prefix_len is_ascii_digit (to_le_bytes w64 w)
run_is w fits =
    let bs = to_le_bytes w64 w in
    let ts = map turned bs in
    eighth _ _ _ (ap (λ x. count_trailing_zeros 64 (marks 8 x)) (turned_word w fits) ∙ first_mark ts (turned_bytes bs (bytes_fit w)))
    (turned_run bs (bytes_fit w)) (prefix_len-le-length is_ascii_digit bs)

pub at_most : (w n : ℕ) → n ≡ prefix_len is_ascii_digit (to_le_bytes w64 w) → n ≤ 8
at_most w n run = subst (λ k. k ≤ 8) (sym run) (prefix_len-le-length is_ascii_digit (to_le_bytes w64 w))

-- a word has one list of bytes
pub same_bytes : (xs ys : List ℕ) → Bytes xs → Bytes ys → length xs ≡ length ys → word xs ≡ word ys → xs ≡ ys
unfolding word
same_bytes [] [] h g long e = refl
same_bytes [] (y ∷ ys) h g long e = absurd (omega arith)
same_bytes (x ∷ xs) [] h g long e = absurd (omega arith)
same_bytes (x ∷ xs) (y ∷ ys) h g long e =
    let first : x ≡ y = omega (arith, h.0, g.0, e) in
    let rest : word xs ≡ word ys = omega (arith, h.0, g.0, e) in
    ap₂ (λ a rest_of. a ∷ rest_of) first (same_bytes xs ys h.1 g.1 (omega arith) rest)

take_bytes : (n : ℕ) (bs : List ℕ) → Bytes bs → Bytes (take n bs)
take_bytes zero bs h = tt
take_bytes (suc n) [] h = tt
take_bytes (suc n) (b ∷ bs) h = (h.0, take_bytes n bs h.1)

zeros_bytes : (z : ℕ) (bs : List ℕ) → Bytes bs → Bytes (replicate z 0 ++ bs)
zeros_bytes zero bs h = h
zeros_bytes (suc z) bs h = (omega arith, zeros_bytes z bs h)

drop_bytes : (n : ℕ) (bs : List ℕ) → Bytes bs → Bytes (drop n bs)
drop_bytes zero bs h = h
drop_bytes (suc n) [] h = tt
drop_bytes (suc n) (b ∷ bs) h = drop_bytes n bs h.1

bytes_zeros : (bs : List ℕ) (z : ℕ) → Bytes bs → Bytes (bs ++ replicate z 0)
bytes_zeros [] zero h = tt
bytes_zeros [] (suc z) h = (omega arith, bytes_zeros [] z tt)
bytes_zeros (b ∷ bs) z h = (h.0, bytes_zeros bs z h.1)

-- `w >> 8 * k`: the bytes from one on, and zeros after them
pub bytes_from : (w k : ℕ) → w < 2 ^ 64 → k ≤ 8 → to_le_bytes w64 (w / 2 ^ (8 * k)) ≡ drop k (to_le_bytes w64 w) ++ replicate k 0
bytes_from w k fits few =
    let bs = to_le_bytes w64 w in
    let xs = take k bs in
    let ys = drop k bs in
    let zs = replicate k (◌+◌ 0 0) in
    let s = w / 2 ^ (8 * k) in
    let long : length bs ≡ 8 = refl in
    let wide_k : wide (length xs) ≡ 8 * k = wide_is (length xs) ∙ omega (arith, length-take k bs, long) in
    let split : w ≡ word ys * 2 ^ (8 * k) + word xs =
    sym (word_bytes w fits) ∙ ap word (sym (take-append-drop k bs)) ∙ word_append xs ys
    ∙ ap (λ j. word ys * 2 ^ j + word xs) wide_k in
    let low : word xs < 2 ^ (8 * k) = subst (λ j. word xs < 2 ^ j) wide_k (word_lt xs (take_bytes k bs (bytes_fit w))) in
    let is : s ≡ word ys = ap (λ x. x / 2 ^ (8 * k)) split ∙ shr_high (word ys) (8 * k) (word xs) low in
    let back : word (ys ++ zs) ≡ word ys =
    word_append ys zs ∙ ap (λ z. z * 2 ^ wide (length ys) + word ys) (word_zeros k) ∙ omega arith in
    let wider : 64 ≤ 64 + 8 * k = omega arith in
    let more : 2 ^ 64 ≤ 2 ^ (64 + 8 * k) = pow-le-pow_right (omega arith) wider in
    let small : s < 2 ^ 64 = shr_below w 64 (8 * k) (omega (arith, fits, more)) in
    let all : length (ys ++ zs) ≡ 8 =
    length-append ys zs ∙ omega (arith, length-drop k bs, long, length-replicate {A = ℕ} k 0) in
    same_bytes (to_le_bytes w64 s) (ys ++ zs) (bytes_fit s) (bytes_zeros ys k (drop_bytes k bs (bytes_fit w))) (sym all)
    (word_bytes s small ∙ is ∙ sym back)

-- the first n bytes of eight, moved to the top
pub moved : (n : ℕ) (ts : List ℕ) → n ≤ 8 → length ts ≡ 8 → Bytes ts
    → word ts * 2 ^ (64 - 8 * n) % 2 ^ 64 ≡ word (replicate (8 - n) 0 ++ take n ts)
moved n ts few long h =
    let xs = take n ts in
    let ys = drop n ts in
    let z = 8 - n in
    let xs_long : length xs ≡ n = omega (arith, length-take n ts) in
    let zs_long : length (replicate z (◌+◌ 0 0)) ≡ z = length-replicate z 0 in
    let split : word ts ≡ word ys * 2 ^ wide (length xs) + word xs = ap word (sym (take-append-drop n ts)) ∙ word_append xs ys in
    let wide_n : wide (length xs) ≡ n * 8 = ap wide xs_long ∙ wide_is n in
    let wide_z : wide (length (replicate z (◌+◌ 0 0))) ≡ 64 - 8 * n = ap wide zs_long ∙ wide_is z ∙ omega arith in
    let out : (word ys * 2 ^ wide (length xs) + word xs) * 2 ^ (64 - 8 * n) % 2 ^ 64 ≡ word xs * 2 ^ (64 - 8 * n) =
    shifted (word ys) (word xs) (wide (length xs)) (64 - 8 * n) (word_lt xs (take_bytes n ts h)) (omega (arith, wide_n)) in
    let back : word (replicate z 0 ++ xs) ≡ word xs * 2 ^ (64 - 8 * n) =
    word_append (replicate z 0) xs ∙ ap₂ (λ k l. word xs * 2 ^ k + l) wide_z (word_zeros z) ∙ omega arith in
    ap (λ k. k * 2 ^ (64 - 8 * n) % 2 ^ 64) split ∙ out ∙ sym back

module _ (w n : ℕ) (fits : w < 2 ^ 64) (few : n ≤ 8) where
  pub bytes_moved : to_le_bytes w64 (bit_xor w (splat 48 8) * 2 ^ (64 - 8 * n) % 2 ^ 64)
      ≡ replicate (8 - n) 0 ++ take n (map turned (to_le_bytes w64 w))
  bytes_moved =
      let bs = to_le_bytes w64 w in
      let ts = map turned bs in
      let s = bit_xor w (splat 48 8) * 2 ^ (64 - 8 * n) % 2 ^ 64 in
      let small : s < 2 ^ 64 = omega arith in
      let tb = turned_bytes bs (bytes_fit w) in
      let is : s ≡ word (replicate (8 - n) 0 ++ take n ts) =
      ap (λ k. k * 2 ^ (64 - 8 * n) % 2 ^ 64) (turned_word w fits) ∙ moved n ts few refl tb in
      let long : length (replicate (8 - n) 0 ++ take n ts) ≡ 8 =
      length-append (replicate (8 - n) 0) (take n ts) ∙ omega (arith, length-replicate {A = ℕ} (8 - n) 0, length-take n ts) in
      same_bytes (to_le_bytes w64 s) (replicate (8 - n) 0 ++ take n ts) (bytes_fit s) (zeros_bytes (8 - n) _ (take_bytes n ts tb))
      (sym long) (word_bytes s small ∙ is)

  -- digits that were moved were digits
  pub digits_moved : AllBelowBase 10 (to_le_bytes w64 (bit_xor w (splat 48 8) * 2 ^ (64 - 8 * n) % 2 ^ 64))
      → n ≤ prefix_len is_ascii_digit (to_le_bytes w64 w)
  digits_moved below =
      turned_digits n (to_le_bytes w64 w) (bytes_fit w) few (after_zeros (8 - n) _ (subst (AllBelowBase 10) bytes_moved below))

  module _ (run : n ≤ prefix_len is_ascii_digit (to_le_bytes w64 w)) where
    pub moved_below : AllBelowBase 10 (to_le_bytes w64 (bit_xor w (splat 48 8) * 2 ^ (64 - 8 * n) % 2 ^ 64))
    moved_below = subst (AllBelowBase 10) (sym bytes_moved) (zeros_below (8 - n) _ (front n (to_le_bytes w64 w) (bytes_fit w) run).1)

    pub moved_value : number_from_digits 10 (to_le_bytes w64 (bit_xor w (splat 48 8) * 2 ^ (64 - 8 * n) % 2 ^ 64))
        ≡ digits_value 10 (take n (to_le_bytes w64 w))
    moved_value =
        let bs = to_le_bytes w64 w in
        ap (number_from_digits 10) bytes_moved ∙ zeros_before (8 - n) (take n (map turned bs))
        ∙ ap (number_from_digits 10) (front n bs (bytes_fit w) run).0 ∙ sym (digits_value_is 10 (take n bs))

pub ruleset short = (at_most, moved_value)
