-- One word of eight bytes, of which the last few are a number.
use Rattle.std.proofs.Common.{ℕ, zero, suc, ◌≡◌, ◌+◌, ◌-◌, ◌%◌, ◌<◌, ◌≤◌, Bool, true, false, cond, eqb, lt-ltb, List, [], ◌∷◌, ◌++◌, map}
use Rattle.std.proofs.Common.{drop, length, get_or, replicate, arith, refl, sym, ap, ap₂, ◌∙◌, subst, bit_and, bit_xor, w8}
use Rattle.std.specs.Simd.Lanes.{zip2, Each1, sel_l, top, number_l}
use Rattle.std.specs.Char.{digit_value}
use Rattle.std.specs.Str.Parse.{digits_value, AllDigits}
use Rattle.std.specs.Int.Digits.{number_from_digits}
use Rattle.std.proofs.lemmas.Bool.{agree_below_at, cond-true, cond-false, eq-eqb, ne_eqb}
use Rattle.std.proofs.lemmas.List.{drop-drop}
use Rattle.std.proofs.lemmas.Nat.{and_mask, xor_lt}
use Rattle.std.proofs.lemmas.Simd.{tops_compared, zip2_splat, length-replicate}
use Rattle.std.proofs.lemmas.Int.Digits.{digits_value_is}
use Rattle.decimal.proofs.Lists.{turned, turned_small, turned_value, zeros_before}
use Rattle.window_numbers.specs.Lanes.{mask_of, sign_of, Writes}

abbrev pub Below : ℕ → List ℕ → Type 0
Below n xs = Each1 (λ x. x < n) xs

abbrev is_minus : ℕ → Bool
is_minus b = eqb b 45

-- the mask without the byte of a minus, as the lanes compute it: one of two masks, of which `rest` keeps one byte less
abbrev pub kept : ℕ → (word rest whole : List ℕ) → List ℕ
kept n word rest whole = sel_l (map (top 7) (zip2 (λ a b. cond (eqb a b) 255 0) word (replicate n 45))) rest whole

-- the digits of the bytes that it keeps, and zero for the others
abbrev pub digits : ℕ → (word rest whole : List ℕ) → List ℕ
digits n word rest whole = zip2 bit_and (zip2 bit_xor word (replicate n 48)) (kept n word rest whole)

-- ---- the bytes that a mask of the last ones keeps
turned_are : (w : List ℕ) → Below 256 w → Below 10 (map turned w) → (map turned w ≡ map digit_value w) × AllDigits 10 w
turned_are [] h s = (refl, tt)
turned_are (b ∷ w) h s =
    let here = turned_value b h.0 (sym (turned_small b h.0) ∙ lt-ltb _ _ s.0) in
    let rest = turned_are w h.1 s.1 in
    (ap₂ (λ z zs. z ∷ zs) here rest.0, (subst (λ k. k < 10) here s.0, rest.1))

and_zero : (t : ℕ) → bit_and t 0 ≡ 0
and_zero t = let cut : bit_and t 0 ≡ t % 1 = and_mask t 0 in omega (arith, cut)

and_byte : (t : ℕ) → t < 256 → bit_and t 255 ≡ t
and_byte t h = let cut : bit_and t 255 ≡ t % 256 = and_mask t 8 in omega (arith, cut)

masked : (z n : ℕ) (w : List ℕ) → length w ≡ z + n → Below 256 w
    → zip2 bit_and (map turned w) (replicate z 0 ++ replicate n 255) ≡ replicate z 0 ++ map turned (drop z w)
masked zero zero [] e h = refl
masked zero zero (b ∷ w) e h = absurd (omega arith)
masked zero (suc n) [] e h = absurd (omega arith)
masked zero (suc n) (b ∷ w) e h =
    ap₂ (λ x xs. x ∷ xs) (and_byte (turned b) (xor_lt 8 b 48 h.0 (omega arith))) (masked zero n w (omega (arith, e)) h.1)
masked (suc z) n [] e h = absurd (omega arith)
masked (suc z) n (b ∷ w) e h = ap₂ (λ x xs. x ∷ xs) (and_zero (turned b)) (masked z n w (omega (arith, e)) h.1)

below_after_zeros : (z : ℕ) (ds : List ℕ) → Below 10 (replicate z 0 ++ ds) → Below 10 ds
below_after_zeros zero ds h = h
below_after_zeros (suc z) ds h = below_after_zeros z ds h.1

below_drop : (z k : ℕ) (w : List ℕ) → Below k w → Below k (drop z w)
below_drop zero k w h = h
below_drop (suc z) k [] h = tt
below_drop (suc z) k (b ∷ w) h = below_drop z k w h.1

module _ (w : List ℕ) (long : length w ≡ 8) (bytes : Below 256 w) where
  reads : (n : ℕ) → n ≤ 8 → Below 10 (zip2 bit_and (map turned w) (mask_of n)) → AllDigits 10 (drop (8 - n) w)
      × (number_from_digits 10 (zip2 bit_and (map turned w) (mask_of n)) ≡ digits_value 10 (drop (8 - n) w))
  reads n few small =
      let text = drop (8 - n) w in
      let parts : zip2 bit_and (map turned w) (mask_of n) ≡ replicate (8 - n) 0 ++ map turned text =
      masked (8 - n) n w (omega (arith, long, few)) bytes in
      let last = turned_are text (below_drop (8 - n) 256 w bytes) (below_after_zeros (8 - n) _ (subst (Below 10) parts small)) in (
        last.1,
        ap (number_from_digits 10) parts ∙ zeros_before (8 - n) (map turned text) ∙ ap (number_from_digits 10) last.0
            ∙ sym (digits_value_is 10 text),
      )

-- ---- which of the two masks is taken
one_less : (z : ℕ) (xs : List ℕ) → replicate (suc z) 0 ++ xs ≡ replicate z 0 ++ (0 ∷ xs)
one_less zero xs = refl
one_less (suc z) xs = ap (λ l. 0 ∷ l) (one_less z xs)

either : (t : Bool) (x : ℕ) → cond t x x ≡ x
either true x = refl
either false x = refl

same_masks : (w xs : List ℕ) → length w ≡ length xs → sel_l (map is_minus w) xs xs ≡ xs
same_masks [] [] e = refl
same_masks [] (x ∷ xs) e = absurd (omega arith)
same_masks (b ∷ w) [] e = absurd (omega arith)
same_masks (b ∷ w) (x ∷ xs) e = ap₂ (λ y ys. y ∷ ys) (either (is_minus b) x) (same_masks w xs (omega (arith, e)))

chosen : (z m : ℕ) (w : List ℕ) → length w ≡ z + suc m
    → sel_l {A = ℕ} (map is_minus w) (replicate z 0 ++ (0 ∷ replicate m 255)) (replicate z 0 ++ (255 ∷ replicate m 255))
    ≡ replicate z 0 ++ (cond (is_minus (get_or (drop z w) 0 0)) 0 255 ∷ replicate m 255)
chosen zero m [] e = absurd (omega arith)
chosen zero m (b ∷ w) e =
    ap (λ l. cond (is_minus b) 0 255 ∷ l) (same_masks w (replicate m 255) (omega (arith, e, length-replicate {A = ℕ} m 255)))
chosen (suc z) m [] e = absurd (omega arith)
chosen (suc z) m (b ∷ w) e = ap₂ (λ x xs. x ∷ xs) (either (is_minus b) 0) (chosen z m w (omega (arith, e)))

-- the masks' numbers differ, by computing
other_sign : (m : ℕ) → m < 8 → sign_of (mask_of m) (mask_of (suc m)) ≡ 4294967295
unfolding sign_of
other_sign m few =
    cond-false _ _ _
    (agree_below_at (λ x. eqb (number_l 256 (mask_of x)) (number_l 256 (mask_of (suc x)))) (λ _. false) 8 m refl few)

same_sign : (xs : List ℕ) → sign_of xs xs ≡ 0
unfolding sign_of
same_sign xs = cond-true _ _ _ (eq-eqb (number_l 256 xs) (number_l 256 xs) refl)

module _ (w rest whole : List ℕ) (n m : ℕ) (long : length w ≡ 8) (bytes : Below 256 w) (one : n ≡ suc m) (few : n ≤ 8)
    (rest_is : rest ≡ mask_of m) (whole_is : whole ≡ mask_of n) (small : Below 10 (digits 8 w rest whole)) where
  abbrev text : List ℕ
  text = drop (8 - n) w

  more : 8 - m ≡ suc (8 - n)
  more = omega (arith, one, few)

  now_is : kept 8 w rest whole ≡ replicate (8 - n) 0 ++ (cond (is_minus (get_or text 0 0)) 0 255 ∷ replicate m 255)
  now_is =
      ap (λ ts. sel_l ts rest whole) (tops_compared w8 eqb w (replicate 8 45) ∙ zip2_splat eqb w 8 45 long)
      ∙ ap₂ (sel_l (map is_minus w)) (rest_is ∙ ap (λ z. replicate z 0 ++ replicate m 255) more ∙ one_less (8 - n) (replicate m 255))
      (whole_is ∙ ap (λ k. replicate (8 - n) 0 ++ replicate k 255) one) ∙ chosen (8 - n) m w (omega (arith, long, one, few))

  -- if the mask of the last k bytes is taken
  taken : (k : ℕ) → k ≤ 8 → kept 8 w rest whole ≡ mask_of k
      → AllDigits 10 (drop (8 - k) w) × (number_from_digits 10 (digits 8 w rest whole) ≡ digits_value 10 (drop (8 - k) w))
  taken k most is =
      let same : digits 8 w rest whole ≡ zip2 bit_and (map turned w) (mask_of k) = ap₂ (zip2 bit_and) (zip2_splat bit_xor w 8 48 long) is in
      let read = reads w long bytes k most (subst (Below 10) same small) in
      (read.0, ap (number_from_digits 10) same ∙ read.1)

  pub writes : Writes text (number_from_digits 10 (digits 8 w rest whole)) (sign_of (kept 8 w rest whole) whole)
  writes = record {
    plain = λ other.
        let is : kept 8 w rest whole ≡ mask_of n = now_is
        ∙ ap (λ t. replicate (8 - n) 0 ++ (cond t 0 255 ∷ replicate m 255)) (ne_eqb _ _ other)
        ∙ ap (λ k. replicate (8 - n) 0 ++ replicate k 255) (sym one) in
        let read = taken n few is in
        (read.0, read.1, ap (λ l. sign_of l whole) (is ∙ sym whole_is) ∙ same_sign whole);
    minus = λ here.
        let is : kept 8 w rest whole ≡ mask_of m = now_is
        ∙ ap (λ t. replicate (8 - n) 0 ++ (cond t 0 255 ∷ replicate m 255)) (eq-eqb _ _ here)
        ∙ sym (one_less (8 - n) (replicate m 255)) ∙ ap (λ z. replicate z 0 ++ replicate m 255) (sym more) in
        let read = taken m (omega (arith, one, few)) is in
        let after : drop (8 - m) w ≡ drop 1 text = ap (λ k. drop k w) (more ∙ omega arith) ∙ sym (drop-drop 1 (8 - n) w) in (
          subst (AllDigits 10) after read.0,
          read.1 ∙ ap (digits_value 10) after,
          ap₂ sign_of is (whole_is ∙ ap mask_of one) ∙ other_sign m (omega (arith, one, few)),
        );
  }
