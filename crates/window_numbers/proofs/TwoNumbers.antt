-- The two words of a vector.
use Rattle.std.proofs.Common.{ℕ, suc, ◌≡◌, ◌+◌, ◌*◌, ◌-◌, ◌<◌, ◌≤◌, List, [], ◌∷◌, ◌++◌, replicate, take, drop, length, get_or, arith, refl}
use Rattle.std.proofs.Common.{sym, ap, ◌∙◌, subst, Fits, w8}
use Rattle.std.specs.Simd.Lanes.{chunk, pick_l}
use Rattle.std.specs.Int.Digits.{number_from_digits}
use Rattle.std.specs.List.{range_with_len}
use Rattle.std.proofs.lemmas.Simd.{pick_l_whole, length-chunk, length-replicate, Each1-chunk, chunk-fits, below_from_Fits}
use Rattle.std.proofs.lemmas.List.{drop-take, drop-drop, drop_at, length-append, take_all, take_at}
use Rattle.window_numbers.specs.Lanes.{mask_of, sign_of, IsPlace, Writes}
use Rattle.window_numbers.specs.SignedNumbers.{between}
use Rattle.window_numbers.proofs.LaneSteps.{eights, eights_are, four_parts}
use Rattle.window_numbers.proofs.LaneWords.{Below, kept, digits, writes}

-- the lanes of one of its words depend on that word alone
abbrev Apart : ℕ → (word rest whole : List ℕ) → Type 0
Apart i word rest whole =
    (chunk i 8 (digits 16 word rest whole) ≡ digits 8 (chunk i 8 word) (chunk i 8 rest) (chunk i 8 whole))
    × (chunk i 8 (kept 16 word rest whole) ≡ kept 8 (chunk i 8 word) (chunk i 8 rest) (chunk i 8 whole))

-- a list of 16, written out
abbrev out : List ℕ → List ℕ
out xs = pick_l 0 xs (range_with_len 0 16)

apart : (word rest whole : List ℕ) → length word ≡ 16 → length rest ≡ 16 → length whole ≡ 16
    → Apart 0 word rest whole × Apart 8 word rest whole
apart word rest whole e f g =
    subst (λ l. Apart 0 l rest whole × Apart 8 l rest whole) (pick_l_whole 0 word 16 e)
    (subst (λ l. Apart 0 (out word) l whole × Apart 8 (out word) l whole) (pick_l_whole 0 rest 16 f)
    (subst (λ l. Apart 0 (out word) (out rest) l × Apart 8 (out word) (out rest) l) (pick_l_whole 0 whole 16 g)
    ((refl, refl), (refl, refl))))

module _ (bytes : List ℕ) (from end : ℕ) (place : IsPlace (length bytes) from end) where
  text_is : drop (8 - (end - from)) (chunk (end - 8) 8 bytes) ≡ between bytes from end
  text_is =
      let n = end - from in
      let parts : 8 ≡ 8 - n + n = omega (arith, place.few) in
      let sum : end - 8 + (8 - n) ≡ from = omega (arith, place.some, place.few, place.room) in
      ap (λ k. drop (8 - n) (take k (drop (end - 8) bytes))) parts ∙ drop-take (8 - n) n (drop (end - 8) bytes)
      ∙ ap (take n) (drop-drop (8 - n) (end - 8) bytes ∙ ap (λ i. drop i bytes) (omega (arith, sum)))

  -- a word that ends at the place
  word_writes : (w rest whole : List ℕ) → ((k : ℕ) → Fits w8 (get_or bytes k 0)) → w ≡ chunk (end - 8) 8 bytes
      → rest ≡ mask_of (end - from - 1) → whole ≡ mask_of (end - from) → Below 10 (digits 8 w rest whole)
      → Writes (between bytes from end) (number_from_digits 10 (digits 8 w rest whole)) (sign_of (kept 8 w rest whole) whole)
  word_writes w rest whole fits is rest_is whole_is small =
      let inside : end - 8 + 8 ≤ length bytes = omega (arith, place.room, place.within) in
      let one : end - from ≡ suc (end - from - 1) = omega (arith, place.some) in
      subst (λ t. Writes t (number_from_digits 10 (digits 8 w rest whole)) (sign_of (kept 8 w rest whole) whole))
      (ap (drop (8 - (end - from))) is ∙ text_is)
      (writes w rest whole (end - from) (end - from - 1) (ap length is ∙ length-chunk (end - 8) 8 bytes inside)
      (subst (Below 256) (sym is) (below_from_Fits w8 (chunk (end - 8) 8 bytes) (chunk-fits w8 (end - 8) 8 bytes fits)))
      one (omega (arith, place.few)) rest_is whole_is small)

mask_long : (n : ℕ) → n ≤ 8 → length (mask_of n) ≡ 8
mask_long n few =
    length-append (replicate (8 - n) 0) (replicate n 255)
    ∙ omega (arith, length-replicate {A = ℕ} (8 - n) 0, length-replicate {A = ℕ} n 255)

-- a list of two words
double : (xs ys zs : List ℕ) → length xs ≡ 8 → length ys ≡ 8 → zs ≡ xs ++ ys
    → (length zs ≡ 16) × (chunk 0 8 zs ≡ xs) × (chunk 8 8 zs ≡ ys)
double xs ys zs e f is =
    let long : length zs ≡ 16 = ap length is ∙ length-append xs ys ∙ omega (arith, e, f) in
    (long, ap (take 8) is ∙ take_at xs ys 8 e, ap (chunk 8 8) is ∙ ap (take 8) (drop_at xs ys 8 e) ∙ take_all 8 ys (omega (arith, f)))

both_masks : (n m : ℕ) (zs : List ℕ) → n ≤ 8 → m ≤ 8 → zs ≡ mask_of n ++ mask_of m
    → (length zs ≡ 16) × (chunk 0 8 zs ≡ mask_of n) × (chunk 8 8 zs ≡ mask_of m)
both_masks n m zs few more = double (mask_of n) (mask_of m) zs (mask_long n few) (mask_long m more)

carry : (text : List ℕ) (x y s t : ℕ) → x ≡ y → s ≡ t → Writes text x s → Writes text y t
carry text x y s t e f w = subst (λ v. Writes text v t) e (subst (Writes text x) f w)

module _ (bytes w rest whole : List ℕ) (f0 e0 f1 e1 : ℕ) (fits : (k : ℕ) → Fits w8 (get_or bytes k 0))
    (p0 : IsPlace (length bytes) f0 e0) (p1 : IsPlace (length bytes) f1 e1)
    (w_is : w ≡ chunk (e0 - 8) 8 bytes ++ chunk (e1 - 8) 8 bytes) (whole_is : whole ≡ mask_of (e0 - f0) ++ mask_of (e1 - f1))
    (rest_is : rest ≡ mask_of (e0 - f0 - 1) ++ mask_of (e1 - f1 - 1)) (small : Below 10 (digits 16 w rest whole)) where
  word_long : (from end : ℕ) → IsPlace (length bytes) from end → length (chunk (end - 8) 8 bytes) ≡ 8
  word_long from end p = length-chunk (end - 8) 8 bytes (omega (arith, p.room, p.within))

  few : (from end : ℕ) → IsPlace (length bytes) from end → (end - from ≤ 8) × (end - from - 1 ≤ 8)
  few from end p = (omega (arith, p.few), omega (arith, p.few))

  words : (length w ≡ 16) × (chunk 0 8 w ≡ chunk (e0 - 8) 8 bytes) × (chunk 8 8 w ≡ chunk (e1 - 8) 8 bytes)
  words = double (chunk (e0 - 8) 8 bytes) (chunk (e1 - 8) 8 bytes) w (word_long f0 e0 p0) (word_long f1 e1 p1) w_is

  rests : (length rest ≡ 16) × (chunk 0 8 rest ≡ mask_of (e0 - f0 - 1)) × (chunk 8 8 rest ≡ mask_of (e1 - f1 - 1))
  rests = both_masks (e0 - f0 - 1) (e1 - f1 - 1) rest (few f0 e0 p0).1 (few f1 e1 p1).1 rest_is

  wholes : (length whole ≡ 16) × (chunk 0 8 whole ≡ mask_of (e0 - f0)) × (chunk 8 8 whole ≡ mask_of (e1 - f1))
  wholes = both_masks (e0 - f0) (e1 - f1) whole (few f0 e0 p0).0 (few f1 e1 p1).0 whole_is

  abbrev value : ℕ → ℕ
  value i = number_from_digits 10 (chunk i 8 (digits 16 w rest whole))

  abbrev sign : ℕ → ℕ
  sign i = sign_of (chunk i 8 (kept 16 w rest whole)) (chunk i 8 whole)

  lane_writes : (i from end : ℕ) → IsPlace (length bytes) from end → chunk i 8 w ≡ chunk (end - 8) 8 bytes
      → chunk i 8 rest ≡ mask_of (end - from - 1) → chunk i 8 whole ≡ mask_of (end - from) → Apart i w rest whole
      → Writes (between bytes from end) (value i) (sign i)
  lane_writes i from end p w_at rest_at whole_at part =
      carry (between bytes from end) _ _ _ _ (ap (number_from_digits 10) (sym part.0))
      (ap (λ l. sign_of l (chunk i 8 whole)) (sym part.1))
      (word_writes bytes from end p (chunk i 8 w) (chunk i 8 rest) (chunk i 8 whole) fits w_at rest_at whole_at
      (subst (Below 10) part.0 (Each1-chunk (λ x. x < 10) i 8 (digits 16 w rest whole) small)))

  both_write : (values signs : List ℕ) → values ≡ value 0 ∷ value 8 ∷ [] → signs ≡ sign 0 ∷ sign 8 ∷ []
      → Writes (between bytes f0 e0) (get_or values 0 0) (get_or signs 0 0)
      × Writes (between bytes f1 e1) (get_or values 1 0) (get_or signs 1 0)
  both_write values signs v_is s_is =
      let part = apart w rest whole words.0 rests.0 wholes.0 in
      let at : (i : ℕ) (xs ys : List ℕ) → xs ≡ ys → get_or ys i 0 ≡ get_or xs i 0 = λ i xs ys is. ap (λ l. get_or l i 0) (sym is) in (
        carry (between bytes f0 e0) _ _ _ _ (at 0 _ _ v_is) (at 0 _ _ s_is) (lane_writes 0 f0 e0 p0 words.1 rests.1 wholes.1 part.0),
        carry (between bytes f1 e1) _ _ _ _ (at 1 _ _ v_is) (at 1 _ _ s_is) (lane_writes 8 f1 e1 p1 words.2 rests.2 wholes.2 part.1),
      )

  long : length (digits 16 w rest whole) ≡ 16
  long =
      subst (λ l. length (digits 16 l rest whole) ≡ 16) (pick_l_whole 0 w 16 words.0)
      (subst (λ l. length (digits 16 (out w) l whole) ≡ 16) (pick_l_whole 0 rest 16 rests.0)
      (subst (λ l. length (digits 16 (out w) (out rest) l) ≡ 16) (pick_l_whole 0 whole 16 wholes.0) refl))

  -- by the halves of their digits
  pub halves_write : (fours signs : List ℕ) → fours ≡ four_parts (digits 16 w rest whole) → signs ≡ sign 0 ∷ sign 8 ∷ []
      → Writes (between bytes f0 e0) (get_or fours 0 0 * 10000 + get_or fours 1 0) (get_or signs 0 0)
      × Writes (between bytes f1 e1) (get_or fours 2 0 * 10000 + get_or fours 3 0) (get_or signs 1 0)
  halves_write fours signs f_is s_is = both_write (eights fours) signs (eights_are (digits 16 w rest whole) fours long f_is) s_is
