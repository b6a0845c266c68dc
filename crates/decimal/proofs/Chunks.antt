-- From a word that was read from the first eight bytes back to the bytes.
use Rattle.std.proofs.lemmas.Grind.{common_steps}
use Rattle.std.proofs.Common.{ℕ, zero, suc, ◌≡◌, ◌+◌, ◌-◌, ◌*◌, ◌/◌, ◌^◌, ◌<◌, ◌≤◌, true, false, List, [], ◌∷◌, ◌++◌, take, drop, replicate}
use Rattle.std.proofs.Common.{length, get_or, arith, refl, sym, ap, ◌∙◌, inl, inr, subst}
use Rattle.std.specs.List.{prefix_len}
use Rattle.std.specs.Char.{is_ascii_digit, digit_value}
use Rattle.std.specs.Int.{w64, to_le_bytes}
use Rattle.std.specs.Str.Parse.{digits_value, AllDigits}
use Rattle.std.proofs.lemmas.Bool.{cond-true, cond-false, cases_Bool, agree_below_at, ltb-true}
use Rattle.std.proofs.lemmas.List.{length-take-le, take-take, drop-take, get_or-take, get_or-drop, length-drop}
use Rattle.std.proofs.lemmas.List.Sums.{prefix_len_stops}
use Rattle.decimal.proofs.Masks.{Bytes, is_small}
use Rattle.decimal.specs.Digits.{AreDigits}
use Rattle.decimal.proofs.Lists.{bytes_fit}
use Rattle.decimal.proofs.Moved.{bytes_from}

digit_small : (b : ℕ) → b < 256 → is_ascii_digit b ≡ true → digit_value b < 10
digit_small b fits digit = ltb-true _ _ (sym (agree_below_at is_ascii_digit (λ x. is_small (digit_value x)) 256 b refl fits) ∙ digit)

pub all_front : (n : ℕ) (bs : List ℕ) → Bytes bs → n ≤ prefix_len is_ascii_digit bs → AllDigits 10 (take n bs)
all_front zero bs h e = tt
all_front (suc n) [] h e = absurd (omega arith)
all_front (suc n) (b ∷ bs) h e =
    elim (cases_Bool (is_ascii_digit b)) [
      | inl digit ↦
          let p : prefix_len is_ascii_digit (b ∷ bs) ≡ 1 + prefix_len is_ascii_digit bs = cond-true _ _ _ digit in
          (digit_small b h.0 digit, all_front n bs h.1 (omega (arith, e, p)))
      | inr other ↦
          let p : prefix_len is_ascii_digit (b ∷ bs) ≡ 0 = cond-false _ _ _ other in
          absurd (omega (arith, e, p))
    ]

front_of : (n : ℕ) (xs ys : List ℕ) → n ≤ length xs → take n (xs ++ ys) ≡ take n xs
front_of n xs ys h = grind (arith, common_steps)

byte_of : (n : ℕ) (xs ys : List ℕ) → n < length xs → get_or (xs ++ ys) n 0 ≡ get_or xs n 0
byte_of n xs ys h = grind (arith, common_steps)

-- n bytes from a place on among the first eight, read as one word
module _ (bytes : List ℕ) (from w n : ℕ) (enough : 8 ≤ length bytes) (same : to_le_bytes w64 w ≡ take 8 bytes) (range : w < 2 ^ 64)
    (few : from + n ≤ 8) where
  abbrev eight : List ℕ
  eight = take 8 bytes

  long : length eight ≡ 8
  long = length-take-le 8 bytes enough

  abbrev shifted : List ℕ
  shifted = to_le_bytes w64 (w / 2 ^ (8 * from))

  moved : shifted ≡ drop from eight ++ replicate from 0
  moved = bytes_from w from range (omega arith) ∙ ap (λ l. drop from l ++ replicate from 0) same

  left : length (drop from eight) ≡ 8 - from
  left = omega (arith, length-drop from eight, long)

  rest : drop from eight ≡ take (8 - from) (drop from bytes)
  rest = let parts : 8 ≡ from + (8 - from) = omega arith in ap (λ k. drop from (take k bytes)) parts ∙ drop-take from (8 - from) bytes

  front : take n shifted ≡ take n (drop from bytes)
  front = grind (arith, common_steps, moved, front_of, left, rest, take-take)

  all_read : n ≤ prefix_len is_ascii_digit shifted → AllDigits 10 (take n (drop from bytes))
  all_read run = subst (AllDigits 10) front (all_front n shifted (bytes_fit (w / 2 ^ (8 * from))) run)

  -- as many digits as there are, and a byte after them there
  module _ (v : ℕ) (run : n ≡ prefix_len is_ascii_digit shifted) (fewer : from + n < 8) (value : v ≡ digits_value 10 (take n shifted)) where
    stop : is_ascii_digit (get_or shifted n 0) ≡ false
    stop =
        let small : n < 8 = omega arith in
        subst (λ k. is_ascii_digit (get_or shifted k 0) ≡ false) (sym run)
        (prefix_len_stops is_ascii_digit shifted 0 (subst (λ k. k < 8) run small))

    there : get_or shifted n 0 ≡ get_or bytes (from + n) 0
    there =
        ap (λ l. get_or l n 0) moved
        ∙ byte_of n (drop from eight) (replicate from 0) (omega (arith, left))
        ∙ get_or-drop from eight n 0
        ∙ get_or-take 8 bytes (from + n) 0 fewer

    back : from + n - from ≡ n
    back = omega arith

    read_as_word : AreDigits bytes from (from + n) v
    read_as_word = grind (arith, common_steps, back, all_read, front, there, stop)

pub word_read : (bytes : List ℕ) (from w n v : ℕ) → 8 ≤ length bytes → to_le_bytes w64 w ≡ take 8 bytes → w < 2 ^ 64 → from + n < 8
    → n ≡ prefix_len is_ascii_digit (to_le_bytes w64 (w / 2 ^ (8 * from))) → v ≡ digits_value 10 (take n (to_le_bytes w64 (w / 2 ^ (8 * from))))
    → AreDigits bytes from (from + n) v
word_read bytes from w n v enough same range fewer run value =
    read_as_word bytes from w n enough same range (omega (arith, fewer)) v run fewer value
