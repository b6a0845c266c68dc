-- Three steps make two numbers of sixteen digits: each reads two lanes as one of twice the width, and puts them together.
use Rattle.std.proofs.Common.{Fits, w8, ℕ, zero, suc, ◌≡◌, ◌+◌, ◌*◌, ◌/◌, ◌%◌, ◌^◌, ◌<◌, List, [], ◌∷◌, map, length, arith, bit_and, refl}
use Rattle.std.proofs.Common.{sym, ap, ap₂, ◌∙◌, subst, get_or, pow-suc, mul_comm}
use Rattle.std.specs.Int.Digits.{number_from_digits}
use Rattle.std.specs.Simd.Lanes.{Each1, number_l, digits_l, chunk}
use Rattle.std.proofs.Math.Arith.{digits_lt}
use Rattle.std.proofs.Math.Nat.{pow-zero}
use Rattle.std.proofs.lemmas.Nat.{and_mask, mod_below}
use Rattle.std.proofs.lemmas.Simd.{pick_l_whole, below_from_Fits}

-- a lane of two digits in base p, of which the lower one counts k times
abbrev act : (p q m k v : ℕ) → ℕ
act p q m k v = (bit_and v m * k % q + v / p) % q

-- every two lanes as one number, in which the first counts k times
abbrev joined : ℕ → List ℕ → List ℕ
joined k [] = []
joined k (x ∷ []) = []
joined k (x ∷ y ∷ xs) = (x * k + y) ∷ joined k xs

module _ (p q m k : ℕ)
    (low : (x y r : ℕ) → x < p → y < p → (x + p * (y + p * r)) % q ≡ x + p * y)
    (high : (x y r : ℕ) → x < p → y < p → (x + p * (y + p * r)) / q ≡ r)
    (put : (x y : ℕ) → x < p → y < p → act p q m k (x + p * y) ≡ x * k + y) where
  step : (n : ℕ) (xs : List ℕ) → length xs ≡ 2 * n → Each1 (λ x. x < p) xs
      → map (act p q m k) (digits_l q n (number_l p xs)) ≡ joined k xs
  step zero [] e h = refl
  step zero (x ∷ xs) e h = absurd (omega arith)
  step (suc n) [] e h = absurd (omega arith)
  step (suc n) (x ∷ []) e h = absurd (omega arith)
  step (suc n) (x ∷ y ∷ xs) e h =
      let r = number_l p xs in
      ap₂ (λ z zs. z ∷ zs) (ap (act p q m k) (low x y r h.0 h.1.0) ∙ put x y h.0 h.1.0)
      (ap (λ z. map (act p q m k) (digits_l q n z)) (high x y r h.0 h.1.0) ∙ step n xs (omega (arith, e)) h.1.1)

-- the lanes that a step gives
given : (p q m k n x : ℕ) → 0 < q
    → (length (map (act p q m k) (digits_l q n x)) ≡ n) × Each1 (λ y. y < q) (map (act p q m k) (digits_l q n x))
given p q m k zero x some = (refl, tt)
given p q m k (suc n) x some =
    let rest = given p q m k n (x / q) some in
    (ap suc rest.0, (mod_below (bit_and (x % q) m * k % q + x % q / p) q some, rest.1))

number_lt : (n p : ℕ) (xs : List ℕ) → length xs ≡ n → Each1 (λ x. x < p) xs → number_l p xs < p ^ n
number_lt zero p [] e h = omega (arith, pow-zero p)
number_lt zero p (x ∷ xs) e h = absurd (omega arith)
number_lt (suc n) p [] e h = absurd (omega arith)
number_lt (suc n) p (x ∷ xs) e h =
    let more : number_l p xs < p ^ n = number_lt n p xs (omega (arith, e)) h.1 in
    let fits : number_l p xs * p + x < p ^ n * p = digits_lt more h.0 in
    let turn : x + p * number_l p xs ≡ number_l p xs * p + x = ap (λ k. x + k) (mul_comm p (number_l p xs)) ∙ omega arith in
    subst (λ k. k < p ^ suc n) (sym turn) (subst (λ k. number_l p xs * p + x < k) (sym (pow-suc p n)) fits)

same_number : (n x : ℕ) → x < 256 ^ n → number_l 256 (digits_l 256 n x) ≡ x
same_number zero x h = omega (arith, h)
same_number (suc n) x h =
    let less : x / 256 < 256 ^ n = omega (arith, h, pow-suc 256 n) in
    omega (arith, same_number n (x / 256) less)

-- ---- digits to pairs, pairs to fours, fours to numbers
low_byte : (x y : ℕ) → x < 256 → y < 256 → bit_and (x + 256 * y) 255 ≡ x
low_byte x y a b = let cut : bit_and (x + 256 * y) 255 ≡ (x + 256 * y) % 256 = and_mask (x + 256 * y) 8 in omega (arith, cut)

low_pair : (x y : ℕ) → x < 65536 → y < 65536 → bit_and (x + 65536 * y) 65535 ≡ x
low_pair x y a b = let cut : bit_and (x + 65536 * y) 65535 ≡ (x + 65536 * y) % 65536 = and_mask (x + 65536 * y) 16 in omega (arith, cut)

abbrev pairs : List ℕ → List ℕ
pairs ds = map (act 256 65536 255 10) (digits_l 65536 8 (number_l 256 ds))

abbrev fours : List ℕ → List ℕ
fours ps = map (act 65536 4294967296 65535 100) (digits_l 4294967296 4 (number_l 256 (digits_l 256 16 (number_l 65536 ps))))

pairs_are : (xs : List ℕ) → length xs ≡ 16 → Each1 (λ x. x < 256) xs → pairs xs ≡ joined 10 xs
pairs_are xs e h =
    step 256 65536 255 10 (λ x y r a b. omega (arith, a, b)) (λ x y r a b. omega (arith, a, b))
    (λ x y a b. omega (arith, low_byte x y a b, a, b)) 8 xs e h

fours_are : (xs : List ℕ) → length xs ≡ 8 → Each1 (λ x. x < 65536) xs → fours xs ≡ joined 100 xs
fours_are xs e h =
    ap (λ x. map (act 65536 4294967296 65535 100) (digits_l 4294967296 4 x)) (same_number 16 (number_l 65536 xs) (number_lt 8 65536 xs e h))
    ∙ step 65536 4294967296 65535 100 (λ x y r a b. omega (arith, a, b)) (λ x y r a b. omega (arith, a, b))
    (λ x y a b. omega (arith, low_pair x y a b, a, b)) 4 xs e h

put_four : (a b c d : ℕ) → (a * 10 + b) * 100 + (c * 10 + d) ≡ number_from_digits 10 (a ∷ b ∷ c ∷ d ∷ [])
put_four a b c d = omega arith

abbrev pub four_parts : List ℕ → List ℕ
four_parts ds =
    number_from_digits 10 (chunk 0 4 ds) ∷ number_from_digits 10 (chunk 4 4 ds) ∷ number_from_digits 10 (chunk 8 4 ds)
    ∷ number_from_digits 10 (chunk 12 4 ds) ∷ []

put_together : (xs : List ℕ) → length xs ≡ 16 → joined 100 (joined 10 xs) ≡ four_parts xs
put_together xs e =
    subst (λ l. joined 100 (joined 10 l) ≡ four_parts l) (pick_l_whole 0 xs 16 e)
    (ap₂ (λ a l. a ∷ l) (put_four _ _ _ _) (ap₂ (λ a l. a ∷ l) (put_four _ _ _ _)
    (ap₂ (λ a b. a ∷ b ∷ []) (put_four _ _ _ _) (put_four _ _ _ _))))

pub fours_of : (ds : List ℕ) → (length ds ≡ 16) × Each1 (Fits w8) ds → fours (pairs ds) ≡ four_parts ds
fours_of ds fits =
    let e = fits.0 in
    let h = below_from_Fits w8 ds fits.1 in
    let ps = given 256 65536 255 10 8 (number_l 256 ds) (omega arith) in
    fours_are (pairs ds) ps.0 ps.1 ∙ ap (joined 100) (pairs_are ds e h) ∙ put_together ds e

-- ---- fours to eights
put_eight : (a b c d e f g h : ℕ) → number_from_digits 10 (a ∷ b ∷ c ∷ d ∷ []) * 10000 + number_from_digits 10 (e ∷ f ∷ g ∷ h ∷ [])
    ≡ number_from_digits 10 (a ∷ b ∷ c ∷ d ∷ e ∷ f ∷ g ∷ h ∷ [])
put_eight a b c d e f g h = omega arith

abbrev two_wholes : List ℕ → List ℕ
two_wholes ds = number_from_digits 10 (chunk 0 8 ds) ∷ number_from_digits 10 (chunk 8 8 ds) ∷ []

abbrev pub eights : List ℕ → List ℕ
eights fs = (get_or fs 0 0 * 10000 + get_or fs 1 0) ∷ (get_or fs 2 0 * 10000 + get_or fs 3 0) ∷ []

pub eights_are : (ds fs : List ℕ) → length ds ≡ 16 → fs ≡ four_parts ds → eights fs ≡ two_wholes ds
eights_are ds fs e is =
    ap eights is
    ∙ subst (λ l. eights (four_parts l) ≡ two_wholes l) (pick_l_whole 0 ds 16 e)
    (ap₂ (λ a b. a ∷ b ∷ []) (put_eight _ _ _ _ _ _ _ _) (put_eight _ _ _ _ _ _ _ _))

pub eights_of : (x y : ℕ) → (x * 10000 % 2 ^ 32 + y) % 2 ^ 32 ≡ (x * 10000 + y) % 2 ^ 32
eights_of x y = omega arith
