-- A number that stands whole among the buffered bytes.
use Rattle.qbf_tokens.proofs.Cited.{rules, ◌≡◌, ℕ, ◌+◌, ◌-◌, ◌^◌, ◌<◌, ◌≤◌, Bool, true, false, ◌&&◌, ◌||◌, ◌==◌, List, [], ◌∷◌, ◌++◌}
use Rattle.qbf_tokens.proofs.Cited.{length, refl, sym, ap, ◌∙◌, arith, common_steps, is_ascii_digit, all_ascii_digits, nat_tests}
use Rattle.qbf_tokens.proofs.Cited.{is_line_end, digits_of, begins_number, begins_with_minus, after_minus, is_separator}
use Rattle.window_numbers.proofs.Cited.{zero, suc, nat_eq, take, drop, get_or, subst, eqb-true, bool_byte, digits_value, Value}
use Rattle.window_numbers.proofs.Cited.{BeginsWithNumber}
use Rattle.std.proofs.Common.{take-suc}
use Rattle.std.specs.Str.Parse.{AllDigits}
use Rattle.std.proofs.lemmas.Bool.{cases_Bool}
use Rattle.qbf_tokens.proofs.DigitByDigit.{pack_small}
use Rattle.qbf_tokens.proofs.KindKept.{kind_number}
use Rattle.qbf_tokens.proofs.Spelled.{own, and_left, digit_no_minus, digits_unbroken}

-- digits of at most 64 bits write their value
value_of : (ds : List ℕ) → AllDigits 10 ds → digits_value 10 ds < 2 ^ 64 → Value (digits_value 10 ds) ≡ digits_of ds
value_of ds h small = grind (arith, common_steps, small, own, pack_small)

one_more : (xs : List ℕ) (n : ℕ) → n < length xs → take (n + 1) xs ≡ take n xs ++ get_or xs n 0 ∷ []
one_more xs n h = let more : n + 1 ≡ suc n = omega arith in ap (λ k. take k xs) more ∙ take-suc xs n 0 h

first_digit : (d : ℕ) (ds : List ℕ) → AllDigits 10 (d ∷ ds) → is_ascii_digit d ≡ true
first_digit d ds h = and_left (is_ascii_digit d) (all_ascii_digits ds) (own.from (d ∷ ds) h)

digit_begins : (d : ℕ) → is_ascii_digit d ≡ true → (d == 45 || is_ascii_digit d) ≡ true
digit_begins d h = grind (arith, nat_tests)

-- a sign takes one byte at most
pub one_at_most : (start : ℕ) (negative : Bool) → start ≡ bool_byte negative → start ≤ 1
one_at_most start true e = omega (arith, e)
one_at_most start false e = omega (arith, e)

-- digits before a separator
plain : (b : ℕ) (bs : List ℕ) (end : ℕ) → end < length (b ∷ bs) → AllDigits 10 (take end (b ∷ bs)) → 0 < end
    → digits_value 10 (take end (b ∷ bs)) < 2 ^ 64
    → is_separator (get_or (b ∷ bs) end 0) ≡ true
    → BeginsWithNumber (b ∷ bs) false (digits_value 10 (take end (b ∷ bs))) (end + 1) (is_line_end (get_or (b ∷ bs) end 0))
plain b bs zero within all some small sep = absurd (omega arith)
plain b bs (suc n) within all some small sep =
    let digit : is_ascii_digit b ≡ true = first_digit b (take n bs) all in
    let no_minus : (b == 45) ≡ false = digit_no_minus b digit in
    let run = b ∷ take n bs in
    let begins : begins_number run ≡ true = digit_begins b digit in
    let after : after_minus run ≡ run = rw no_minus refl in
    record {
      run = run;
      separator = get_or (b ∷ bs) (suc n) 0;
      within = omega arith;
      front = one_more (b ∷ bs) (suc n) within;
      begins = begins;
      unbroken = digits_unbroken run (own.from run all);
      is = kind_number run (digits_value 10 run) false begins (value_of run all small ∙ ap digits_of (sym after)) (sym no_minus) refl;
      separates = sep;
      ends = refl;
    }

-- digits after a minus
minus : (bs : List ℕ) (n : ℕ) → suc n < length (45 ∷ bs) → AllDigits 10 (take n bs) → digits_value 10 (take n bs) < 2 ^ 64
    → (true && nat_eq (digits_value 10 (take n bs)) 0) ≡ false
    → is_separator (get_or (45 ∷ bs) (suc n) 0) ≡ true
    → BeginsWithNumber (45 ∷ bs) true (digits_value 10 (take n bs)) (suc n + 1) (is_line_end (get_or (45 ∷ bs) (suc n) 0))
minus bs n within all small nonzero sep =
    let run = 45 ∷ take n bs in
    record {
      run = run;
      separator = get_or (45 ∷ bs) (suc n) 0;
      within = omega arith;
      front = one_more (45 ∷ bs) (suc n) within;
      begins = refl;
      unbroken = (refl, digits_unbroken (take n bs) (own.from (take n bs) all));
      is = kind_number run (digits_value 10 (take n bs)) true refl (value_of (take n bs) all small) refl nonzero;
      separates = sep;
      ends = refl;
    }

module _ (bytes : List ℕ) (negative : Bool) (start value end : ℕ) (sign : negative ≡ begins_with_minus bytes) (after : start ≤ end)
    (fits : value < 2 ^ 64)
    (all : AllDigits 10 (take (end - start) (drop start bytes))) (is : value ≡ digits_value 10 (take (end - start) (drop start bytes)))
    (some : end ≡ start → ⊥) (within : end < length bytes) (nonzero : (negative && nat_eq value 0) ≡ false)
    (sep : is_separator (get_or bytes end 0) ≡ true) where
  small : digits_value 10 (take (end - start) (drop start bytes)) < 2 ^ 64
  small = subst (λ v. v < 2 ^ 64) is fits

  -- the number that the reader of digits found, if there is no minus
  pub found_plain : negative ≡ false → start ≡ 0 → BeginsWithNumber bytes negative value (end + 1) (nat_eq (get_or bytes end 0) 10)
  found_plain none front = by bytes refl
    where
      by : (xs : List ℕ) → bytes ≡ xs → BeginsWithNumber bytes negative value (end + 1) (nat_eq (get_or bytes end 0) 10)
      by [] e = absurd (let empty : length bytes ≡ 0 = ap length e in omega arith)
      by (b ∷ bs) e =
          let whole : end - 0 ≡ end = omega arith in
          let same : take (end - start) (drop start bytes) ≡ take end (b ∷ bs) =
          ap (λ k. take (end - k) (drop k bytes)) front ∙ ap (λ k. take k bytes) whole ∙ ap (take end) e in
          let value_is : value ≡ digits_value 10 (take end (b ∷ bs)) = is ∙ ap (digits_value 10) same in
          rw (none, value_is, e)
          (plain b bs end (subst (λ l. end < length l) e within) (subst (AllDigits 10) same all) (omega (arith, front, some))
          (subst (λ l. digits_value 10 l < 2 ^ 64) same small) (subst (λ l. is_separator (get_or l end 0) ≡ true) e sep))

  -- and after one
  pub found_minus : negative ≡ true → start ≡ 1 → BeginsWithNumber bytes negative value (end + 1) (nat_eq (get_or bytes end 0) 10)
  found_minus here front = by bytes end refl refl
    where
      by : (xs : List ℕ) (n : ℕ) → bytes ≡ xs → end ≡ n → BeginsWithNumber bytes negative value (end + 1) (nat_eq (get_or bytes end 0) 10)
      by [] n e f = absurd (let empty : length bytes ≡ 0 = ap length e in omega arith)
      by (b ∷ bs) zero e f = absurd (omega (arith, front))
      by (b ∷ bs) (suc n) e f =
          let minus_first : (b == 45) ≡ true = sym (ap begins_with_minus e) ∙ sym sign ∙ here in
          let is_minus : b ≡ 45 = eqb-true b 45 minus_first in
          let whole : bytes ≡ 45 ∷ bs = e ∙ ap (λ k. k ∷ bs) is_minus in
          let less : end - 1 ≡ n = omega (arith, f) in
          let same : take (end - start) (drop start bytes) ≡ take n bs =
          ap (λ k. take (end - k) (drop k bytes)) front ∙ ap (λ k. take k (drop 1 bytes)) less ∙ ap (λ l. take n (drop 1 l)) whole in
          let value_is : value ≡ digits_value 10 (take n bs) = is ∙ ap (digits_value 10) same in
          let other : (true && nat_eq (digits_value 10 (take n bs)) 0) ≡ false =
          ap (λ k. true && nat_eq k 0) (sym value_is) ∙ ap (λ k. k && nat_eq value 0) (sym here) ∙ nonzero in
          rw (here, value_is, f, whole) (minus bs n (subst (λ l. suc n < length l) whole (subst (λ k. k < length bytes) f within))
          (subst (AllDigits 10) same all) (subst (λ l. digits_value 10 l < 2 ^ 64) same small) other
          (subst (λ l. is_separator (get_or l (suc n) 0) ≡ true) whole (subst (λ k. is_separator (get_or bytes k 0) ≡ true) f sep)))

  -- either
  pub found : start ≡ bool_byte negative → BeginsWithNumber bytes negative value (end + 1) (nat_eq (get_or bytes end 0) 10)
  found is = search (rules, cases_Bool, found_minus, bool_byte, found_plain)
