-- Numbers of more than eight bytes, of which the last eight are read first.
use Rattle.qbf_tokens.proofs.Cited.{◌≡◌, ℕ, ◌+◌, ◌-◌, ◌<◌, ◌≤◌, true, false, List, [], ◌∷◌, length, sym, ap, ◌∙◌, arith, nat_tests}
use Rattle.qbf_tokens.proofs.Cited.{is_separator}
use Rattle.window_numbers.proofs.Cited.{zero, suc, get_or, take, drop, subst, drop-drop, digits_value, inl, inr}
use Rattle.std.specs.Prelude.{ℤ, pos, int_lt, unsigned_abs}
use Rattle.std.specs.Str.Parse.{AllDigits}
use Rattle.std.proofs.Common.{length-drop}
use Rattle.std.proofs.lemmas.List.{get_or-drop}
use Rattle.decimal.specs.Digits.{IsEight}
use Rattle.window_numbers.specs.SignedNumbers.{IsNumber, between}
use Rattle.window_numbers.specs.Numbers.{BeginsWithValue, IsTail}
use Rattle.window_numbers.proofs.NumbersInARow.{equal_or, negative_is, no_minus}
use Rattle.window_numbers.proofs.PassedNumbers.{all_after}

pub tail_order : (start tail end : ℕ) → IsTail start tail end → start ≤ tail
tail_order start tail end t = elim t [ inl same ↦ omega (arith, same) | inr far ↦ omega (arith, far.0) ]

pub tail_far : (start tail end : ℕ) → IsTail start tail end → (start ≡ tail → ⊥) → (start < tail) × (tail + 8 ≡ end)
tail_far start tail end t other = elim t [ inl same ↦ absurd (other same) | inr far ↦ far ]

-- the last eight bytes of a number, which are not negative, are digits
module _ (bytes : List ℕ) (start from end : ℕ) (v : ℤ) (n : IsNumber bytes from end v) (far : (start < from) × (from + 8 ≡ end))
    (within : end < length bytes) (plain : int_lt v (pos 0) ≡ false) where
  len : end - from ≡ 8
  len = omega (arith, far.1)

  digits_are : AllDigits 10 (take 8 (drop from bytes)) × (v ≡ pos (digits_value 10 (take 8 (drop from bytes))))
  digits_are = elim (equal_or (get_or bytes from 0) 45) [
    | inl here ↦
        let is = n.minus (grind (arith, nat_tests, here)) in
        let sign = negative_is (digits_value 10 (between bytes (from + 1) end)) is.2 in
        absurd (let never : true ≡ false = sym (ap (λ x. int_lt x (pos 0)) is.1 ∙ sign.0) ∙ plain in cc never)
    | inr none ↦
        subst (λ k. AllDigits 10 (take k (drop from bytes)) × (v ≡ pos (digits_value 10 (take k (drop from bytes))))) len
        (n.plain (no_minus (get_or bytes from 0) none))
  ]

  rest : take (length bytes - start) (drop start bytes) ≡ drop start bytes
  rest = all_after start bytes

  there : drop (from - start) (take (length bytes - start) (drop start bytes)) ≡ drop from bytes
  there =
      let place : start + (from - start) ≡ from = omega (arith, far.0) in
      ap (drop (from - start)) rest ∙ drop-drop (from - start) start bytes ∙ ap (λ k. drop k bytes) place

  pub last_eight : IsEight (take (length bytes - start) (drop start bytes)) (from - start) (unsigned_abs v)
  last_eight = record {
    within = omega (arith, ap length rest, length-drop start bytes, far.0, far.1, within);
    digits = subst (λ l. AllDigits 10 (take 8 l)) (sym there) digits_are.0;
    value_is = ap unsigned_abs digits_are.1 ∙ ap (λ l. digits_value 10 (take 8 l)) (sym there);
  }

  pub last_separator : is_separator (get_or bytes end 0) ≡ true
      → is_separator (get_or (take (length bytes - start) (drop start bytes)) (from - start + 8) 0) ≡ true
  last_separator sep =
      let place : start + (from - start + 8) ≡ end = omega (arith, far.0, far.1) in
      ap (λ l. is_separator (get_or l (from - start + 8) 0)) rest
      ∙ ap is_separator (get_or-drop start bytes (from - start + 8) 0 ∙ ap (λ k. get_or bytes k 0) place)
      ∙ sep

  pub last_within : from - start + 8 < length (take (length bytes - start) (drop start bytes))
  last_within = omega (arith, ap length rest, length-drop start bytes, far.0, far.1, within)

  pub whole_number : (w : ℤ) → BeginsWithValue (take (length bytes - start) (drop start bytes)) (from - start + 8 + 1) w
      → BeginsWithValue (drop start bytes) (end + 1 - start) w
  whole_number w h =
      let all : from - start + 8 + 1 ≡ end + 1 - start = omega (arith, far.0, far.1) in
      subst (λ k. BeginsWithValue (drop start bytes) k w) all
      (subst (λ l. BeginsWithValue l (from - start + 8 + 1) w) rest h)

-- four tails
pub four_are : (s0 s1 s2 s3 t0 t1 t2 t3 e0 e1 e2 e3 : ℕ) → IsTail s0 t0 e0 → IsTail s1 t1 e1 → IsTail s2 t2 e2 → IsTail s3 t3 e3
    → (i : ℕ) → i < 4
    → IsTail (get_or (s0 ∷ s1 ∷ s2 ∷ s3 ∷ []) i 0) (get_or (t0 ∷ t1 ∷ t2 ∷ t3 ∷ []) i 0) (get_or (e0 ∷ e1 ∷ e2 ∷ e3 ∷ []) i 0)
four_are s0 s1 s2 s3 t0 t1 t2 t3 e0 e1 e2 e3 h0 h1 h2 h3 zero less = h0
four_are s0 s1 s2 s3 t0 t1 t2 t3 e0 e1 e2 e3 h0 h1 h2 h3 (suc zero) less = h1
four_are s0 s1 s2 s3 t0 t1 t2 t3 e0 e1 e2 e3 h0 h1 h2 h3 (suc (suc zero)) less = h2
four_are s0 s1 s2 s3 t0 t1 t2 t3 e0 e1 e2 e3 h0 h1 h2 h3 (suc (suc (suc zero))) less = h3
four_are s0 s1 s2 s3 t0 t1 t2 t3 e0 e1 e2 e3 h0 h1 h2 h3 (suc (suc (suc (suc i)))) less = absurd (omega (arith, less))
