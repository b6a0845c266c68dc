-- Digits after a minus in a word of bytes that has a zero digit in its place.
use Rattle.std.proofs.Common.{ℕ, zero, suc, ◌≡◌, ◌-◌, ◌≤◌, List, ◌++◌, take, drop, replicate, refl, sym, ap, ◌∙◌, subst, arith, ◌+◌, inl, inr}
use Rattle.std.specs.List.{prefix_len}
use Rattle.std.specs.Char.{is_ascii_digit}
use Rattle.std.specs.Int.{w64, to_le_bytes}
use Rattle.std.specs.Str.Parse.{digits_value, AllDigits}
use native.Mathlib.Numerals.{unary_clauses}
use Rattle.std.proofs.lemmas.Bool.{cases_lt}
use Rattle.std.proofs.lemmas.List.{take-take, drop-take}
use Rattle.decimal.specs.Digits.{IsWithZeros}
use Rattle.decimal.proofs.Chunks.{all_front}
use Rattle.decimal.proofs.Lists.{bytes_fit}
use Rattle.decimal.proofs.Masks.{Bytes}

digits_after : (from end : ℕ) (ds : List ℕ) → Bytes (replicate from 48 ++ ds) → end ≤ prefix_len is_ascii_digit (replicate from 48 ++ ds)
    → AllDigits 10 (take (end - from) ds)
digits_after zero end ds bytes run = simp unary_clauses (all_front end ds bytes run)
digits_after (suc from) zero ds bytes run =
    let none : 0 ≡ 0 - suc from = omega arith in subst (λ n. AllDigits 10 (take n ds)) none tt
digits_after (suc from) (suc end) ds bytes run = simp unary_clauses (digits_after from end ds bytes.1 (omega (arith, run)))

value_after : (from end : ℕ) (ds : List ℕ)
    → digits_value 10 (take end (replicate from 48 ++ ds)) ≡ digits_value 10 (take (end - from) ds)
value_after zero end ds = simp unary_clauses refl
value_after (suc from) zero ds = let none : 0 ≡ 0 - suc from = omega arith in ap (λ n. digits_value 10 (take n ds)) none
value_after (suc from) (suc end) ds = simp unary_clauses (value_after from end ds)

among_eight : (bytes : List ℕ) (from end : ℕ) → end ≤ 8 → take (end - from) (drop from (take 8 bytes)) ≡ take (end - from) (drop from bytes)
among_eight bytes from end few =
    elim (cases_lt end from) [
      | inl less ↦
          let none : end - from ≡ 0 = omega arith in
          ap (λ n. take n (drop from (take 8 bytes))) none ∙ sym (ap (λ n. take n (drop from bytes)) none)
      | inr more ↦
          let parts : 8 ≡ from + (8 - from) = omega arith in
          ap (λ k. take (end - from) (drop from (take k bytes))) parts
          ∙ ap (take (end - from)) (drop-take from (8 - from) bytes)
          ∙ take-take (end - from) (8 - from) (drop from bytes) (omega arith)
    ]

module _ (bytes : List ℕ) (from end w : ℕ) (word : IsWithZeros bytes from w) (few : end ≤ 8) where
  pub digits_read : end ≤ prefix_len is_ascii_digit (to_le_bytes w64 w) → AllDigits 10 (take (end - from) (drop from bytes))
  digits_read run =
      subst (AllDigits 10) (among_eight bytes from end few)
      (digits_after from end (drop from (take 8 bytes)) (subst Bytes word.bytes_are (bytes_fit w))
      (subst (λ l. end ≤ prefix_len is_ascii_digit l) word.bytes_are run))

  pub value_read : digits_value 10 (take end (to_le_bytes w64 w)) ≡ digits_value 10 (take (end - from) (drop from bytes))
  value_read =
      ap (λ l. digits_value 10 (take end l)) word.bytes_are
      ∙ value_after from end (drop from (take 8 bytes))
      ∙ ap (digits_value 10) (among_eight bytes from end few)
