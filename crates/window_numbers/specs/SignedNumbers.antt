-- Signed decimal numbers among bytes.
use Rattle.std.specs.Prelude.{ℕ, ◌≡◌, ◌<◌, ◌≤◌, ◌+◌, ◌-◌, ◌==◌, Bool, List, [], ◌∷◌, take, drop, length, slice_index, slice_index_or, ⊤}
use Rattle.std.specs.Prelude.{ℤ, pos, neg_ℤ, unsigned_abs}
use Rattle.std.specs.Str.Parse.{digits_value, AllDigits}

-- the bytes between two places
abbrev pub between : List ℕ → ℕ → ℕ → List ℕ
between bytes from end = take (end - from) (drop from bytes)

-- the one to eight bytes between two places write this number: digits, or a minus and digits that are not all zeros
pub record IsNumber (bytes : List ℕ) (from end : ℕ) (value : ℤ) : Type 0 where
  pub some : from < end
  pub few : end ≤ from + 8
  pub plain : (slice_index bytes from ≡ 45 → ⊥) → AllDigits 10 (between bytes from end)
      × (value ≡ pos (digits_value 10 (between bytes from end)))
  pub minus : slice_index bytes from ≡ 45 → AllDigits 10 (between bytes (from + 1) end)
      × (value ≡ neg_ℤ (pos (digits_value 10 (between bytes (from + 1) end)))) × (0 < digits_value 10 (between bytes (from + 1) end))

-- numbers that end at these places: the first begins at a place, and each other one begins one byte after the end of the one before it
abbrev pub AreInARow : List ℕ → ℕ → List ℕ → List ℤ → Type 0
AreInARow bytes from [] [] = ⊤
AreInARow bytes from [] (value ∷ values) = ⊥
AreInARow bytes from (end ∷ ends) [] = ⊥
AreInARow bytes from (end ∷ ends) (value ∷ values) = IsNumber bytes from end value × AreInARow bytes (end + 1) ends values

-- numbers between places: each begins at one of the first and ends before one of the others
abbrev pub AreBetween : List ℕ → (starts ends : List ℕ) → List ℤ → Type 0
AreBetween bytes starts ends values =
    (i : ℕ) → i < length ends → IsNumber bytes (slice_index starts i) (slice_index ends i) (slice_index_or values i (pos 0))

-- whether a number is zero
abbrev pub is_zero : ℤ → Bool
is_zero value = unsigned_abs value == 0
