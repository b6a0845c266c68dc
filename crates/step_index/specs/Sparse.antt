-- How numbers are kept so that each is found by value.
use Rattle.std.specs.Prelude.{◌≡◌, ◌≢◌, ◌<◌, ◌≤◌, ◌⊎◌, ℕ, suc, List, length, Some, None, slice_get, get_or, nat_eq}
use Rattle.std.specs.Map.{lookup}
use Rattle.step_index.specs.NumberSets.{HasBit}

-- an entry of the table that is not 0 is one more than a place of its number
abbrev pub ArePlaces : List ℕ → List ℕ → Type 0
ArePlaces table numbers = (n i : ℕ) → get_or table n 0 ≡ suc i → slice_get numbers i ≡ Some n

-- the map has an entry of a number
abbrev pub IsFar : List (ℕ × ℕ) → ℕ → Type 0
IsFar far n = lookup (nat_eq n) far ≢ None

-- the table or the map has a place of each number before place `count`
abbrev pub ArePlaced : List (ℕ × ℕ) → List ℕ → List ℕ → ℕ → Type 0
ArePlaced far table numbers count = (n i : ℕ) → i < count → slice_get numbers i ≡ Some n → (get_or table n 0 ≢ 0) ⊎ IsFar far n

-- the set or the map has each number
abbrev pub AreNoted : List (ℕ × ℕ) → List ℕ → List ℕ → Type 0
AreNoted far near numbers = (n i : ℕ) → slice_get numbers i ≡ Some n → HasBit near n ⊎ IsFar far n

-- each number is in the set, or in the map with a place, and the table has places of those in the set before place `placed`
pub record AreFound (near table : List ℕ) (far : List (ℕ × ℕ)) (numbers : List ℕ) (placed : ℕ) : Type 0 where
  pub table_sound : ArePlaces table numbers
  pub far_sound : (n i : ℕ) → lookup (nat_eq n) far ≡ Some i → slice_get numbers i ≡ Some n
  pub near_sound : (n : ℕ) → HasBit near n → (i : ℕ) × (slice_get numbers i ≡ Some n)
  pub noted : AreNoted far near numbers
  pub first : ArePlaced far table numbers placed
  pub few : placed ≤ length numbers
