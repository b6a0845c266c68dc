-- Words of eight bytes in the lanes of vectors.
use Rattle.std.specs.Prelude.{ℕ, ◌≡◌, ◌<◌, ◌≤◌, ◌+◌, ◌-◌, ◌==◌, nat_lt, if◌then◌else◌, List, ◌++◌, replicate, drop, slice_index}
use Rattle.std.specs.Prelude.{ℤ, pos, neg_ℤ}
use Rattle.std.specs.Simd.Lanes.{number_l}
use Rattle.std.specs.Str.Parse.{digits_value, AllDigits}

-- the mask of the last n bytes of eight
abbrev pub mask_of : ℕ → List ℕ
mask_of n = replicate (8 - n) 0 ++ replicate n 255

-- one to eight bytes between two places, with eight bytes before the second, and one after it
pub record IsPlace (len from end : ℕ) : Type 0 where
  pub some : from < end
  pub few : end ≤ from + 8
  pub room : 8 ≤ end
  pub within : end < len

-- digits of this value and no sign, or a minus and digits of this value, with all bits of the sign set
pub record Writes (text : List ℕ) (value sign : ℕ) : Type 0 where
  pub plain : (slice_index text 0 ≡ 45 → ⊥) → AllDigits 10 text × (value ≡ digits_value 10 text) × (sign ≡ 0)
  pub minus : slice_index text 0 ≡ 45 → AllDigits 10 (drop 1 text) × (value ≡ digits_value 10 (drop 1 text)) × (sign ≡ 4294967295)

-- all bits of a half if the mask was changed, and none if not
unfoldable pub sign_of : List ℕ → List ℕ → ℕ
sign_of now whole = if number_l 256 now == number_l 256 whole then 0 else 4294967295

-- a value, negative if the highest bit of its sign is set
abbrev pub with_sign : ℕ → ℕ → ℤ
with_sign value sign = if nat_lt 2147483647 sign then neg_ℤ (pos value) else pos value
