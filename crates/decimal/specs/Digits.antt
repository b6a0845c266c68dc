-- Decimal digits among bytes.
use Rattle.std.specs.Prelude.{ℕ, ◌≡◌, ◌<◌, ◌≤◌, ◌-◌, ◌+◌, ◌*◌, ◌^◌, ◌⊎◌, List, ◌++◌, true, false, take, drop, replicate, length, slice_index}
use Rattle.std.specs.Int.{w64, to_le_bytes}
use Rattle.std.specs.Char.{is_ascii_digit}
use Rattle.std.specs.Str.Parse.{digits_value, AllDigits}

-- the bytes between two places are digits of this value, at most 20, and the byte after them is not a digit
pub record AreDigits (bytes : List ℕ) (from end value : ℕ) : Type 0 where
  pub order : from ≤ end
  pub within : end ≤ length bytes
  pub few : end ≤ from + 20
  pub digits : AllDigits 10 (take (end - from) (drop from bytes))
  pub value_is : value ≡ digits_value 10 (take (end - from) (drop from bytes))
  pub stops : is_ascii_digit (slice_index bytes end) ≡ false

-- The digits that were found from a place on, at most 20: their value, and the place after them. If another digit follows, there are 20
-- already, or the value with it does not fit in 64 bits.
pub record AreLeadingDigits (bytes : List ℕ) (from : ℕ) (found : ℕ × ℕ) : Type 0 where
  pub within : (from ≤ found.1) × (found.1 ≤ length bytes) × (found.1 ≤ from + 20)
  pub digits : AllDigits 10 (take (found.1 - from) (drop from bytes))
  pub value : found.0 ≡ digits_value 10 (take (found.1 - from) (drop from bytes))
  pub longest : found.1 < length bytes → is_ascii_digit (slice_index bytes found.1) ≡ true
      → (found.1 ≡ from + 20) ⊎ (2 ^ 64 ≤ found.0 * 10 + (slice_index bytes found.1 - 48))

-- the eight bytes from a place on are digits of this value
pub record IsEight (bytes : List ℕ) (from value : ℕ) : Type 0 where
  pub within : from + 8 ≤ length bytes
  pub digits : AllDigits 10 (take 8 (drop from bytes))
  pub value_is : value ≡ digits_value 10 (take 8 (drop from bytes))

-- the word of the first eight bytes, with zero digits in place of those before a place
pub record IsWithZeros (bytes : List ℕ) (from word : ℕ) : Type 0 where
  pub enough : 8 ≤ length bytes
  pub bytes_are : to_le_bytes w64 word ≡ replicate from 48 ++ drop from (take 8 bytes)

-- a text is put from a place on, up to its end, and nothing before it or after it changes
pub record IsPutFrom (old new : List ℕ) (at end : ℕ) (text : List ℕ) : Type 0 where
  pub end_is : end ≡ at + length text
  pub written : drop at new ≡ text ++ drop end old
  pub before : take at new ≡ take at old
