-- From lanes to the numbers that they are.
use Rattle.std.proofs.lemmas.Grind.{common_steps}
use Rattle.std.proofs.Common.{suc, zero, ℕ, ◌≡◌, ◌+◌, ◌%◌, ◌^◌, ◌<◌, ◌≤◌, cond, eqb, List, [], ◌∷◌, map, drop, length, get_or}
use Rattle.std.proofs.Common.{replicate, arith, refl, sym, ap, ap₂, ◌∙◌, subst, w32}
use Rattle.std.specs.Prelude.{ℤ, neg_ℤ}
use Rattle.std.specs.Int.{cast_signed, cast_unsigned}
use Rattle.std.specs.Simd.Lanes.{zip2, Each1, top, mask_l}
use Rattle.std.specs.Str.Parse.{digits_value, AllDigits}
use Rattle.std.proofs.lemmas.Bool.{cases_Bool, eqb-true, eqb-false}
use Rattle.std.proofs.lemmas.Int.{to_z-of_z, to_z_pos}
use Rattle.std.proofs.lemmas.Int.Digits.{digits_value-lt}
use Rattle.std.proofs.lemmas.List.{length-take, get_or-take, get_or-drop, drop-take, drop-drop, length-drop}
use Rattle.std.proofs.lemmas.Simd.{bitmask_splat, pick_l_whole}
use Rattle.std.proofs.Math.Nat.{pow-le-pow_right}
use Rattle.window_numbers.specs.Lanes.{IsPlace, Writes, with_sign}
use Rattle.window_numbers.specs.SignedNumbers.{between, IsNumber, AreBetween, AreInARow, is_zero}

-- a signed lane, as it is passed
abbrev pub passed : ℤ → ℤ
passed z = cast_signed w32 (cast_unsigned w32 z)

same_lane : (v s : ℕ) → v < 2 ^ 31 → passed (with_sign v s) ≡ with_sign v s
same_lane v s small = grind (arith, common_steps, to_z-of_z, to_z_pos)

zero_lane : (v s : ℕ) → is_zero (with_sign v s) ≡ eqb v 0
zero_lane v s = grind (arith, common_steps)

-- a sign of all bits has no low byte below ten
some : (v s : ℕ) → s ≡ 4294967295 → (v ≡ 0 → s % 4294967296 % 256 < 10) → 0 < v
some zero s is right = absurd (omega (arith, is, right refl))
some (suc v) s is right = omega arith

-- ---- one number
module _ (bytes : List ℕ) (from end v s : ℕ) (place : IsPlace (length bytes) from end) (is : Writes (between bytes from end) v s) where
  first_is : get_or (between bytes from end) 0 0 ≡ get_or bytes from 0
  first_is = grind (arith, common_steps, get_or-take, some, get_or-drop)

  rest_is : drop 1 (between bytes from end) ≡ between bytes (from + 1) end
  rest_is = grind (arith, common_steps, some, drop-take, drop-drop)

  few_digits : (ds : List ℕ) → length ds ≤ 8 → AllDigits 10 ds → digits_value 10 ds < 2 ^ 31
  few_digits ds few h = grind (arith, common_steps, pow-le-pow_right, digits_value-lt)

  text_few : length (between bytes from end) ≤ 8
  text_few = grind (arith, common_steps, between, length-take)

  pub small : v < 2 ^ 31
  small = grind (arith, common_steps, cases_Bool, eqb, between, eqb-true, length-drop, text_few, few_digits, eqb-false)

  pub value_is : v % 4294967296 ≡ v
  value_is = omega (arith, small)

  pub number : (v % 4294967296 ≡ 0 → s % 4294967296 % 256 < 10) → IsNumber bytes from end (with_sign (v % 4294967296) (s % 4294967296))
  number right = grind (arith, common_steps, some, first_is, ap₂, with_sign, value_is, rest_is, neg_ℤ, digits_value)

-- ---- four of them
same_lanes : (vs ss : List ℕ) → Each1 (λ v. v < 2 ^ 31) vs
    → map (cast_signed w32) (map (cast_unsigned w32) (zip2 with_sign vs ss)) ≡ zip2 with_sign vs ss
same_lanes [] ss h = refl
same_lanes (v ∷ vs) [] h = refl
same_lanes (v ∷ vs) (s ∷ ss) h = ap₂ (λ z zs. z ∷ zs) (same_lane v s h.0) (same_lanes vs ss h.1)

zero_lanes : (vs ss : List ℕ) → length vs ≡ length ss → map (λ v. eqb v 0) vs ≡ map is_zero (zip2 with_sign vs ss)
zero_lanes [] ss e = refl
zero_lanes (v ∷ vs) [] e = absurd (omega arith)
zero_lanes (v ∷ vs) (s ∷ ss) e = ap₂ (λ z zs. z ∷ zs) (sym (zero_lane v s)) (zero_lanes vs ss (omega (arith, e)))

-- the lanes that are zero
abbrev are_zero : List ℕ → List ℕ
are_zero vs = zip2 (λ x y. cond (eqb x y) 4294967295 0) vs (replicate 4 0)

-- no value that is zero has a sign
abbrev Unsigned : (vs ss : List ℕ) → Type 0
Unsigned vs ss = (i : ℕ) → i < 4 → get_or vs i 0 ≡ 0 → get_or ss i 0 % 256 < 10

-- the lower halves of the lanes of two vectors
abbrev halves : List ℕ → List ℕ → List ℕ
halves a b = get_or a 0 0 % 4294967296 ∷ get_or a 1 0 % 4294967296 ∷ get_or b 0 0 % 4294967296 ∷ get_or b 1 0 % 4294967296 ∷ []

abbrev WritesAt : List ℕ → (from end value sign : ℕ) → Type 0
WritesAt bytes from end value sign = IsPlace (length bytes) from end × Writes (between bytes from end) value sign

module _ (bytes starts ends a s b t : List ℕ) (w0 : WritesAt bytes (get_or starts 0 0) (get_or ends 0 0) (get_or a 0 0) (get_or s 0 0))
    (w1 : WritesAt bytes (get_or starts 1 0) (get_or ends 1 0) (get_or a 1 0) (get_or s 1 0))
    (w2 : WritesAt bytes (get_or starts 2 0) (get_or ends 2 0) (get_or b 0 0) (get_or t 0 0))
    (w3 : WritesAt bytes (get_or starts 3 0) (get_or ends 3 0) (get_or b 1 0) (get_or t 1 0)) where
  below : (from end v s : ℕ) → WritesAt bytes from end v s → v % 4294967296 < 2 ^ 31
  below from end v s w = let same = value_is bytes from end v s w.0 w.1 in omega (arith, same, small bytes from end v s w.0 w.1)

  pub values_small : Each1 (λ v. v < 2 ^ 31) (halves a b)
  values_small = (below _ _ _ _ w0, (below _ _ _ _ w1, (below _ _ _ _ w2, (below _ _ _ _ w3, tt))))

  are_between : length ends ≡ 4 → Unsigned (halves a b) (halves s t) → AreBetween bytes starts ends (zip2 with_sign (halves a b) (halves s t))
  are_between long right zero few = number bytes _ _ _ _ w0.0 w0.1 (right 0 (omega arith))
  are_between long right (suc zero) few = number bytes _ _ _ _ w1.0 w1.1 (right 1 (omega arith))
  are_between long right (suc (suc zero)) few = number bytes _ _ _ _ w2.0 w2.1 (right 2 (omega arith))
  are_between long right (suc (suc (suc zero))) few = number bytes _ _ _ _ w3.0 w3.1 (right 3 (omega arith))
  are_between long right (suc (suc (suc (suc i)))) few = absurd (omega (arith, few, long))

  module _ (vs ss : List ℕ) (zs : List ℤ) (vs_are : vs ≡ halves a b) (ss_are : ss ≡ halves s t) (zs_are : zs ≡ zip2 with_sign vs ss) where
    zs_passed : map (cast_signed w32) (map (cast_unsigned w32) zs) ≡ zip2 with_sign (halves a b) (halves s t)
    zs_passed = grind (arith, common_steps, cast_signed, w32, cast_unsigned, ap₂, zip2, with_sign, same_lanes, values_small)

    pub numbers_are : length ends ≡ 4 → Unsigned vs ss → AreBetween bytes starts ends (map (cast_signed w32) (map (cast_unsigned w32) zs))
    numbers_are long right =
        subst (AreBetween bytes starts ends) (sym zs_passed)
        (are_between long (subst (λ l. Unsigned l (halves s t)) vs_are (subst (Unsigned vs) ss_are right)))

    pub zeros_are : mask_l (map (top 31) (are_zero vs)) % 2 ^ 64 ≡ mask_l (map is_zero (map (cast_signed w32) (map (cast_unsigned w32) zs)))
    zeros_are =
        ap (λ l. mask_l (map (top 31) (are_zero l)) % 2 ^ 64) vs_are ∙ bitmask_splat w32 eqb (halves a b) 4 0 refl (omega arith)
        ∙ ap mask_l (zero_lanes (halves a b) (halves s t) refl) ∙ ap (λ l. mask_l (map is_zero l)) (sym zs_passed)

-- four numbers of which each but the first begins one byte after the end of the one before it
pub in_a_row : (bytes : List ℕ) (from : ℕ) (ends : List ℕ) (values : List ℤ) → length ends ≡ 4 → length values ≡ 4
    → AreBetween bytes (from ∷ (get_or ends 0 0 + 1) ∷ (get_or ends 1 0 + 1) ∷ (get_or ends 2 0 + 1) ∷ []) ends values → AreInARow bytes from ends values
in_a_row bytes from ends values long four h =
    subst (λ l. AreInARow bytes from l values) (pick_l_whole 0 ends 4 long) (each values four h)
  where
    each : (vs : List ℤ) → length vs ≡ 4
        → AreBetween bytes (from ∷ (get_or ends 0 0 + 1) ∷ (get_or ends 1 0 + 1) ∷ (get_or ends 2 0 + 1) ∷ []) ends vs
        → AreInARow bytes from (get_or ends 0 0 ∷ get_or ends 1 0 ∷ get_or ends 2 0 ∷ get_or ends 3 0 ∷ []) vs
    each [] few g = absurd (omega (arith, few))
    each (v ∷ []) few g = absurd (omega (arith, few))
    each (v ∷ w ∷ []) few g = absurd (omega (arith, few))
    each (v ∷ w ∷ x ∷ []) few g = absurd (omega (arith, few))
    each (v ∷ w ∷ x ∷ y ∷ []) few g =
        (g 0 (omega (arith, long)), (g 1 (omega (arith, long)), (g 2 (omega (arith, long)), (g 3 (omega (arith, long)), tt))))
    each (v ∷ w ∷ x ∷ y ∷ z ∷ more) few g = absurd (omega (arith, few))
