-- Numbers as `decimal` finds them are numbers that stand whole among the bytes.
use Rattle.qbf_tokens.proofs.Cited.{◌≡◌, ℕ, ◌+◌, ◌-◌, ◌^◌, ◌<◌, ◌≤◌, Bool, true, false, ◌&&◌, List, [], ◌∷◌, length, refl, sym, ap, ◌∙◌}
use Rattle.qbf_tokens.proofs.Cited.{arith, nat_tests, common_steps, is_separator, begins_with_minus}
use Rattle.window_numbers.proofs.Cited.{zero, suc, nat_eq, take, drop, get_or, subst, drop-drop, digits_value, BeginsWithNumber, ◌⊎◌, inl}
use Rattle.window_numbers.proofs.Cited.{inr}
use Rattle.std.specs.Prelude.{ℤ, pos, neg_ℤ, unsigned_abs, int_lt, bit_or}
use Rattle.std.specs.Str.Parse.{AllDigits}
use Rattle.std.proofs.Common.{length-drop, eqb-true}
use Rattle.std.proofs.lemmas.List.{get_or-drop, length-take}
use Rattle.std.proofs.lemmas.Int.Digits.{digits_value-lt}
use Rattle.std.proofs.Math.Nat.{pow-le-pow_right}
use Rattle.window_numbers.specs.SignedNumbers.{between, IsNumber, AreBetween, AreInARow}
use Rattle.window_numbers.specs.declared.numbers.Numbers.{Numbers}
use Rattle.window_numbers.specs.Numbers.{AreSeparators, AreShort, NumberStands, SeemToEnd, StandFrom, place, AreAfterGaps, IsGapTo}
use Rattle.window_numbers.proofs.Gaps.{comes, no_gap}
use Rattle.std.proofs.lemmas.Nat.{le_or_l, le_or_r}
use Rattle.window_numbers.proofs.BufferedNumber.{found}

first_minus : (xs : List ℕ) → begins_with_minus xs ≡ nat_eq (get_or xs 0 0) 45
first_minus [] = refl
first_minus (x ∷ xs) = refl

-- eight digits or less write a number of 64 bits
small : (ds : List ℕ) → AllDigits 10 ds → length ds ≤ 8 → digits_value 10 ds < 2 ^ 64
small ds h few = grind (arith, common_steps, pow-le-pow_right, digits_value-lt)

pub negative_is : (d : ℕ) → 0 < d → (int_lt (neg_ℤ (pos d)) (pos 0) ≡ true) × (unsigned_abs (neg_ℤ (pos d)) ≡ d)
negative_is zero some = absurd (omega (arith, some))
negative_is (suc d) some = (refl, refl)

plain_is : (d : ℕ) → int_lt (pos d) (pos 0) ≡ false
plain_is d = grind (arith, common_steps)

some_is : (d : ℕ) → 0 < d → (true && nat_eq d 0) ≡ false
some_is d some = grind (arith, nat_tests, some)

pub no_minus : (b : ℕ) → nat_eq b 45 ≡ false → b ≡ 45 → ⊥
no_minus b none e = absurd (let never : false ≡ true = sym none ∙ ap (λ x. nat_eq x 45) e in cc never)

pub equal_or : (a b : ℕ) → (nat_eq a b ≡ true) ⊎ (nat_eq a b ≡ false)
equal_or a b = split (nat_eq a b) refl
  where
    split : (c : Bool) → nat_eq a b ≡ c → (nat_eq a b ≡ true) ⊎ (nat_eq a b ≡ false)
    split true e = inl e
    split false e = inr e

module _ (bytes : List ℕ) (from end : ℕ) (v : ℤ) (within : end < length bytes) (n : IsNumber bytes from end v)
    (sep : is_separator (get_or bytes end 0) ≡ true) where
  len : end - from < length (drop from bytes)
  len = omega (arith, within, n.some, length-drop from bytes)

  separator : get_or (drop from bytes) (end - from) 0 ≡ get_or bytes end 0
  separator = get_or-drop from bytes (end - from) 0 ∙ ap (λ k. get_or bytes k 0) (omega (arith, n.some))

  minus : begins_with_minus (drop from bytes) ≡ nat_eq (get_or bytes from 0) 45
  minus = first_minus (drop from bytes) ∙ ap (λ b. nat_eq b 45) (get_or-drop from bytes 0 0 ∙ ap (λ k. get_or bytes k 0) (omega arith))

  Found : ℤ → Type 0
  Found w = BeginsWithNumber (drop from bytes) (int_lt w (pos 0)) (unsigned_abs w) (end - from + 1)
      (nat_eq (get_or (drop from bytes) (end - from) 0) 10)

  plain : nat_eq (get_or bytes from 0) 45 ≡ false → Found v
  unfolding Found
  plain none =
      let is = n.plain (no_minus (get_or bytes from 0) none) in
      let whole : end - from - 0 ≡ end - from = omega arith in
      let same : take (end - from - 0) (drop 0 (drop from bytes)) ≡ between bytes from end = ap (λ k. take k (drop from bytes)) whole in
      let all = subst (AllDigits 10) (sym same) is.0 in
      let few = length-take (end - from) (drop from bytes) in
      rw (is.1, plain_is (digits_value 10 (between bytes from end))) (
      found (drop from bytes) false 0 (digits_value 10 (between bytes from end)) (end - from) (sym (minus ∙ none)) (omega arith)
      (small (between bytes from end) is.0 (omega (arith, few, n.few))) all (ap (digits_value 10) (sym same))
      (λ e. omega (arith, e, n.some)) len refl
      (ap is_separator separator ∙ sep) refl)

  signed : nat_eq (get_or bytes from 0) 45 ≡ true → Found v
  unfolding Found
  signed here =
      let is = n.minus (grind (arith, nat_tests, here)) in
      let d = digits_value 10 (between bytes (from + 1) end) in
      let sign = negative_is d is.2 in
      let less : end - from - 1 ≡ end - (from + 1) = omega arith in
      let same : take (end - from - 1) (drop 1 (drop from bytes)) ≡ between bytes (from + 1) end =
      ap (λ k. take k (drop 1 (drop from bytes))) less ∙ ap (take (end - (from + 1))) (drop-drop 1 from bytes) in
      let all = subst (AllDigits 10) (sym same) is.0 in
      let few = length-take (end - (from + 1)) (drop (from + 1) bytes) in
      let alone : end - from ≡ 1 → d ≡ 0 = λ e.
      let none : end - (from + 1) ≡ 0 = omega (arith, e) in ap (λ k. digits_value 10 (take k (drop (from + 1) bytes))) none in
      rw (is.1, sign.0, sign.1) (found (drop from bytes) true 1 d (end - from) (sym (minus ∙ here)) (omega (arith, n.some))
      (small (between bytes (from + 1) end) is.0 (omega (arith, few, n.few))) all (ap (digits_value 10) (sym same))
      (λ e. omega (arith, alone e, is.2)) len (some_is d is.2) (ap is_separator separator ∙ sep) refl)

  -- a number that a separator follows begins the bytes from its place on
  pub usual : BeginsWithNumber (drop from bytes) (int_lt v (pos 0)) (unsigned_abs v) (end + 1 - from) (nat_eq (get_or bytes end 0) 10)
  unfolding Found
  usual =
      let len_is : end - from + 1 ≡ end + 1 - from = omega (arith, n.some) in
      let either : Found v = elim (equal_or (get_or bytes from 0) 45) [ inl here ↦ signed here | inr none ↦ plain none ] in
      subst (λ l. BeginsWithNumber (drop from bytes) (int_lt v (pos 0)) (unsigned_abs v) l (nat_eq (get_or bytes end 0) 10)) len_is
      (subst (λ b. BeginsWithNumber (drop from bytes) (int_lt v (pos 0)) (unsigned_abs v) (end - from + 1) (nat_eq b 10)) separator either)

-- ---- numbers in a row

module _ (bytes places : List ℕ) where
  -- one that ends before the next place
  pub one_stands : (k from end : ℕ) (v : ℤ) → end < length bytes → get_or places (k + 1) 0 ≡ end + 1
      → IsGapTo bytes (get_or places k 0) from → IsNumber bytes from end v
      → is_separator (get_or bytes end 0) ≡ true → NumberStands bytes places k v
  one_stands k from end v within there gap n sep =
      rw there (
        omega (arith, within),
        comes bytes (get_or places k 0) from (end + 1) v gap (omega (arith, within, n.some))
            (nat_eq (get_or bytes end 0) 10, usual bytes from end v within n sep),
      )

  -- one that was found from a place on
  pub alone : (k : ℕ) (v : ℤ) → NumberStands bytes places k v → StandFrom bytes places k (v ∷ [])
  alone k v s zero few = let same : k + 0 ≡ k = omega arith in rw same s
  alone k v s (suc i) few = absurd (omega (arith, few))

  -- the place where the i-th of the numbers in a row ends
  pub record EndsThere (ends : List ℕ) (k i : ℕ) : Type 0 where
    pub within : get_or ends i 0 < length bytes
    pub next : get_or places (k + i + 1) 0 ≡ get_or ends i 0 + 1
    pub separates : is_separator (get_or bytes (get_or ends i 0) 0) ≡ true

  -- each of them stands at its place
  pub row_stands : (ends : List ℕ) (values : List ℤ) (k from : ℕ) → IsGapTo bytes (get_or places k 0) from → AreInARow bytes from ends values
      → ((i : ℕ) → i < length ends → EndsThere ends k i) → StandFrom bytes places k values
  row_stands [] [] k from here h e i few = absurd (omega (arith, few))
  row_stands [] (v ∷ vs) k from here h e i few = absurd h
  row_stands (x ∷ xs) [] k from here h e i few = absurd h
  row_stands (x ∷ xs) (v ∷ vs) k from here h e zero few =
      let first = e 0 (omega arith) in
      let same : k + 0 ≡ k = omega arith in
      let next : k + 0 + 1 ≡ k + 1 = omega arith in
      rw same (one_stands k from x v first.within (subst (λ j. get_or places j 0 ≡ x + 1) next first.next) here h.0 first.separates)
  row_stands (x ∷ xs) (v ∷ vs) k from here h e (suc i) few =
      let on : k + suc i ≡ k + 1 + i = omega arith in
      let next : k + 0 + 1 ≡ k + 1 = omega arith in
      let there = subst (λ j. get_or places j 0 ≡ x + 1) next (e 0 (omega arith)).next in
      rw on (row_stands xs vs (k + 1) (x + 1) (rw there (no_gap bytes (x + 1))) h.1 (λ j short. later j (e (suc j) (omega (arith, short)))) i (omega (arith, few)))
    where
      later : (j : ℕ) → EndsThere (x ∷ xs) k (suc j) → EndsThere xs (k + 1) j
      later j s = let same : k + suc j + 1 ≡ k + 1 + j + 1 = omega arith in record {
        within = s.within;
        next = subst (λ m. get_or places m 0 ≡ get_or xs j 0 + 1) same s.next;
        separates = s.separates;
      }

  -- numbers between places stand if each begins after separators alone
  pub between_stand : (starts ends : List ℕ) (values : List ℤ) (k : ℕ) → length starts ≡ length ends → length values ≡ length ends
      → ((i : ℕ) → i < length starts → IsGapTo bytes (get_or places (k + i) 0) (get_or starts i 0)) → AreBetween bytes starts ends values
      → ((i : ℕ) → i < length ends → EndsThere ends k i) → StandFrom bytes places k values
  between_stand starts ends values k as_many enough gap h e i few =
      let less : i < length ends = omega (arith, few, enough) in
      let there = e i less in
      one_stands (k + i) (get_or starts i 0) (get_or ends i 0) (get_or values i (pos 0)) there.within there.next (gap i (omega (arith, less, as_many)))
      (h i less) there.separates

-- each of them has 32 bits
pub short : (bytes : List ℕ) (from end : ℕ) (v : ℤ) → IsNumber bytes from end v → unsigned_abs v < 2 ^ 31
short bytes from end v n = elim (equal_or (get_or bytes from 0) 45) [
  | inl here ↦ let is = n.minus (grind (arith, nat_tests, here)) in
      let sign = negative_is (digits_value 10 (between bytes (from + 1) end)) is.2 in
      rw (is.1, sign.1) (few (from + 1) is.0 (omega arith))
  | inr none ↦ let is = n.plain (no_minus (get_or bytes from 0) none) in rw is.1 (few from is.0 (omega arith))
]
  where
    few : (start : ℕ) → AllDigits 10 (between bytes start end) → from ≤ start → digits_value 10 (between bytes start end) < 2 ^ 31
    few start h after =
        let cut = length-take (end - start) (drop start bytes) in
        let eight : length (between bytes start end) ≤ 8 = omega (arith, cut, n.few, after) in
        let more : 10 ^ length (between bytes start end) ≤ 10 ^ 8 = pow-le-pow_right (omega arith) eight in
        omega (arith, digits_value-lt 10 (between bytes start end) h, more)

pub are_short : (bytes : List ℕ) (from : ℕ) (ends : List ℕ) (values : List ℤ) → AreInARow bytes from ends values → AreShort values
are_short bytes from [] [] h = tt
are_short bytes from [] (v ∷ vs) h = absurd h
are_short bytes from (x ∷ xs) [] h = absurd h
are_short bytes from (x ∷ xs) (v ∷ vs) h = (short bytes from x v h.0, are_short bytes (x + 1) xs vs h.1)

pub are_all_short : (bytes starts ends : List ℕ) (values : List ℤ) → length values ≡ length ends → AreBetween bytes starts ends values
    → AreShort values
are_all_short bytes starts ends values enough h =
    each values (λ i less. short bytes (get_or starts i 0) (get_or ends i 0) (get_or values i (pos 0)) (h i (omega (arith, less, enough))))
  where
    each : (vs : List ℤ) → ((i : ℕ) → i < length vs → unsigned_abs (get_or vs i (pos 0)) < 2 ^ 31) → AreShort vs
    each [] g = tt
    each (v ∷ vs) g = (g 0 (omega arith), each vs (λ i less. g (suc i) (omega (arith, less))))

-- the ends of four numbers in a row are all before the last
pub record EndsGoUp (ends : List ℕ) (len : ℕ) : Type 0 where
  pub first : get_or ends 0 0 < len
  pub second : get_or ends 1 0 < len
  pub third : get_or ends 2 0 < len
  pub fourth : get_or ends 3 0 < len

pub ends_go_up : (bytes : List ℕ) (from : ℕ) (ends : List ℕ) (len : ℕ) (values : List ℤ) → length ends ≡ 4
    → AreInARow bytes from ends values → get_or ends 3 0 < len → EndsGoUp ends len
ends_go_up bytes from [] len values four h last = absurd (omega (arith, four))
ends_go_up bytes from (a ∷ []) len values four h last = absurd (omega (arith, four))
ends_go_up bytes from (a ∷ b ∷ []) len values four h last = absurd (omega (arith, four))
ends_go_up bytes from (a ∷ b ∷ c ∷ []) len values four h last = absurd (omega (arith, four))
ends_go_up bytes from (a ∷ b ∷ c ∷ d ∷ e ∷ ends) len values four h last = absurd (omega (arith, four))
ends_go_up bytes from (a ∷ b ∷ c ∷ d ∷ []) len [] four h last = absurd h
ends_go_up bytes from (a ∷ b ∷ c ∷ d ∷ []) len (v ∷ []) four h last = absurd h.1
ends_go_up bytes from (a ∷ b ∷ c ∷ d ∷ []) len (v ∷ w ∷ []) four h last = absurd h.1.1
ends_go_up bytes from (a ∷ b ∷ c ∷ d ∷ []) len (v ∷ w ∷ x ∷ []) four h last = absurd h.1.1.1
ends_go_up bytes from (a ∷ b ∷ c ∷ d ∷ []) len (v ∷ w ∷ x ∷ y ∷ more) four h last = grind (arith, common_steps)

-- the places of numbers in a row are those that were looked for
pub four_ends : (n : Numbers) (bytes ends : List ℕ) (k : ℕ) → length ends ≡ 4 → EndsGoUp ends (length bytes) → AreSeparators bytes ends
    → length bytes ≤ 4096 → SeemToEnd n k ends → (i : ℕ) → i < length ends → EndsThere bytes n.places ends k i
four_ends n bytes ends k four up separate small seem i few = record {
  within = inside i few;
  next = seem i few (omega (arith, inside i few, small));
  separates = separate i few;
}
  where
    inside : (j : ℕ) → j < length ends → get_or ends j 0 < length bytes
    inside zero less = up.first
    inside (suc zero) less = up.second
    inside (suc (suc zero)) less = up.third
    inside (suc (suc (suc zero))) less = up.fourth
    inside (suc (suc (suc (suc j)))) less = absurd (omega (arith, less, four))

-- four numbers that seem to end one by one seem to end together
pub four_seem : (n : Numbers) (k a b c d : ℕ) → (a < 4096 → place n (k + 1) ≡ a + 1) → (b < 4096 → place n (k + 1 + 1) ≡ b + 1)
    → (c < 4096 → place n (k + 2 + 1) ≡ c + 1) → (d < 4096 → place n (k + 3 + 1) ≡ d + 1) → SeemToEnd n k (a ∷ b ∷ c ∷ d ∷ [])
four_seem n k a b c d ha hb hc hd = each
  where
    at_place : (i j end : ℕ) → k + i + 1 ≡ j → place n j ≡ end + 1 → place n (k + i + 1) ≡ end + 1
    at_place i j end same e = ap (place n) same ∙ e

    each : SeemToEnd n k (a ∷ b ∷ c ∷ d ∷ [])
    each zero few less = at_place 0 (k + 1) a (omega arith) (ha less)
    each (suc zero) few less = at_place 1 (k + 1 + 1) b (omega arith) (hb less)
    each (suc (suc zero)) few less = at_place 2 (k + 2 + 1) c (omega arith) (hc less)
    each (suc (suc (suc zero))) few less = at_place 3 (k + 3 + 1) d (omega arith) (hd less)
    each (suc (suc (suc (suc i)))) few less = absurd (omega (arith, few))

-- four places of which each is reached through separators
pub four_after : (n : Numbers) (bytes : List ℕ) (k a b c d : ℕ) → IsGapTo bytes (place n k) a → IsGapTo bytes (place n (k + 1)) b
    → IsGapTo bytes (place n (k + 2)) c → IsGapTo bytes (place n (k + 3)) d → AreAfterGaps n bytes k (a ∷ b ∷ c ∷ d ∷ [])
four_after n bytes k a b c d ha hb hc hd = each
  where
    each : AreAfterGaps n bytes k (a ∷ b ∷ c ∷ d ∷ [])
    each zero few = let same : k + 0 ≡ k = omega arith in rw same ha
    each (suc zero) few = hb
    each (suc (suc zero)) few = hc
    each (suc (suc (suc zero))) few = hd
    each (suc (suc (suc (suc i)))) few = absurd (omega (arith, few))

-- if four numbers together have no bit, a separator stands at each of four places
pub four_separate : (bytes places : List ℕ) (a b c d : ℕ) → length places ≡ 4
    → nat_eq (bit_or (bit_or (bit_or a b) c) d) 0 ≡ true
    → nat_eq a 0 ≡ is_separator (get_or bytes (get_or places 0 0) 0) → nat_eq b 0 ≡ is_separator (get_or bytes (get_or places 1 0) 0)
    → nat_eq c 0 ≡ is_separator (get_or bytes (get_or places 2 0) 0) → nat_eq d 0 ≡ is_separator (get_or bytes (get_or places 3 0) 0)
    → AreSeparators bytes places
four_separate bytes places a b c d four none ha hb hc hd = each
  where
    all : bit_or (bit_or (bit_or a b) c) d ≡ 0
    all = eqb-true _ _ none

    l3 : bit_or (bit_or a b) c ≤ bit_or (bit_or (bit_or a b) c) d
    l3 = le_or_l (bit_or (bit_or a b) c) d

    l2 : bit_or a b ≤ bit_or (bit_or a b) c
    l2 = le_or_l (bit_or a b) c

    zero_is : (x : ℕ) → x ≡ 0 → nat_eq x 0 ≡ true
    zero_is x e = rw e refl

    each : AreSeparators bytes places
    each zero few = sym ha ∙ zero_is a (omega (arith, le_or_l a b, l2, l3, all))
    each (suc zero) few = sym hb ∙ zero_is b (omega (arith, le_or_r a b, l2, l3, all))
    each (suc (suc zero)) few = sym hc ∙ zero_is c (omega (arith, le_or_r (bit_or a b) c, l3, all))
    each (suc (suc (suc zero))) few = sym hd ∙ zero_is d (omega (arith, le_or_r (bit_or (bit_or a b) c) d, all))
    each (suc (suc (suc (suc i)))) few = absurd (omega (arith, few, four))
