-- The state that is kept of a run while its bytes are read.
use Rattle.std.specs.Prelude.{◌≡◌, ℕ, ◌^◌, ◌≤◌, ◌<◌, Bool, true, false, not, ◌||◌, ◌==◌, nat_lt, if◌then◌else◌, List, [], ◌∷◌, take, length}
use Rattle.std.specs.Str.{all_ascii_digits}
use Rattle.std.specs.Char.{is_ascii_digit}
use Rattle.qbf_tokens.specs.declared.run.Digits.{Digits}
use Rattle.qbf_tokens.specs.declared.run.Digits.TheVariants.{Value, Big, Other}
use Rattle.qbf_tokens.specs.Tokens.{magnitude}

-- the number that the digits so far write: one of at most 64 bits, a larger one, or none
abbrev pub digits_of : List ℕ → Digits
digits_of ds =
    if not (all_ascii_digits ds) then Other
    else (if not (nat_lt (magnitude ds) (2 ^ 64)) then Big
    else Value (magnitude ds))

-- whether a run begins with a minus
abbrev pub begins_with_minus : List ℕ → Bool
begins_with_minus [] = false
begins_with_minus (b ∷ bs) = b == 45

-- a run without the minus before it
abbrev pub after_minus : List ℕ → List ℕ
after_minus [] = []
after_minus (b ∷ bs) = if b == 45 then bs else b ∷ bs

-- the first bytes are kept as long as the run may be a word
abbrev pub IsFront : List ℕ → ℕ → List ℕ → Type 0
IsFront front len run =
    (length front ≡ 5) × (len ≤ 5 → (take len front ≡ run) × (length run ≡ len)) × (5 < len → 5 < length run) × (len ≤ 6)

-- whether a run begins as a number does, with a minus or a digit
abbrev pub begins_number : List ℕ → Bool
begins_number [] = false
begins_number (b ∷ bs) = b == 45 || is_ascii_digit b

-- the state that is kept of a run that begins as a number does
pub record IsNumeral (negative : Bool) (digits : Digits) (run : List ℕ) : Type 0 where
  pub begins : begins_number run ≡ true
  pub negative_is : negative ≡ begins_with_minus run
  pub digits_is : digits ≡ digits_of (after_minus run)

-- the state that is kept of another run
pub record IsSpelling (front : List ℕ) (len : ℕ) (run : List ℕ) : Type 0 where
  pub some : 0 < length run
  pub begins : begins_number run ≡ false
  pub front_is : IsFront front len run
