-- The buffer of a caller after a call that writes a text.
use Rattle.std.specs.Prelude.{◌≡◌, ℕ, ◌+◌, ◌<◌, ◌≤◌, List, ◌∷◌, ◌++◌, length, drop}

-- The buffer went from `old` to `new`. If there is room for the text and a zero after it, both are at its front, and the rest stayed; if
-- not, all of it stayed. The text's length is returned.
abbrev pub IsWritten : List ℕ → List ℕ → List ℕ → ℕ → Type 0
IsWritten text old new returned =
    (returned ≡ length text)
    × (length text < length old → new ≡ text ++ 0 ∷ drop (1 + length text) old)
    × (length old ≤ length text → new ≡ old)

-- Numbers are at the front of a list if it has room for all of them; if not, the list stays as it was. Their count is returned.
abbrev pub IsListed : List ℕ → List ℕ → List ℕ → ℕ → Type 0
IsListed numbers old new returned =
    (returned ≡ length numbers)
    × (length numbers ≤ length old → new ≡ numbers ++ drop (length numbers) old)
    × (length old < length numbers → new ≡ old)
