-- Numbers that are held of a window: where each stands among its bytes.
use Rattle.std.specs.Prelude.{◌≡◌, ℕ, zero, suc, ◌+◌, ◌-◌, ◌<◌, ◌≤◌, Bool, true, false, not, count_by, List, [], ◌∷◌, ◌++◌, length, take}
use Rattle.std.specs.Prelude.{drop, ℤ, pos, unsigned_abs, int_lt, slice_index_or, ◌^◌, ◌⊎◌}
use Rattle.window_numbers.specs.SignedNumbers.{IsNumber}
use Rattle.std.specs.Simd.Lanes.{Each1}
use Rattle.std.specs.List.{AllByRecursion}
use Rattle.qbf_tokens.specs.declared.token.Comments.{Comments}
use Rattle.qbf_tokens.specs.declared.token.Token.TheVariants.{Number, Word as ThisWord}
use Rattle.qbf_tokens.specs.declared.token.Word.{Word}
use Rattle.qbf_tokens.specs.Left.{is_separator, IsUnbroken}
use Rattle.qbf_tokens.specs.Runs.{begins_number}
use Rattle.qbf_tokens.specs.Tokens.{line_number, kind, is_comment_byte, is_line_end}
use Rattle.window_numbers.specs.Cursors.{one_if}
use Rattle.window_numbers.specs.declared.cursor.Cursor.{Cursor}
use Rattle.window_numbers.specs.declared.tails.FourTails.{FourTails}
use Rattle.window_numbers.specs.declared.numbers.Numbers.{Numbers}
use Rattle.window_numbers.specs.Values.{held}

-- the first `len` bytes are a run that is this number, and the separator after it, which ends the line or not
pub record BeginsWithNumber (bytes : List ℕ) (negative : Bool) (value len : ℕ) (ends_line : Bool) : Type 0 where
  pub run : List ℕ
  pub separator : ℕ
  pub within : len ≤ length bytes
  pub front : take len bytes ≡ run ++ separator ∷ []
  pub begins : begins_number run ≡ true
  pub unbroken : IsUnbroken run
  pub is : Number negative value ≡ kind run
  pub separates : is_separator separator ≡ true
  pub ends : ends_line ≡ is_line_end separator

-- the first `len` bytes are a run that is this number, and the separator after it
abbrev pub BeginsWithValue : List ℕ → (len : ℕ) → ℤ → Type 0
BeginsWithValue bytes len value = (ends_line : Bool) × BeginsWithNumber bytes (int_lt value (pos 0)) (unsigned_abs value) len ends_line

-- the first byte is a run that is this word and begins no comment, and a blank follows it
pub record BeginsWithLetter (bytes : List ℕ) (word : Word) : Type 0 where
  pub letter : ℕ
  pub rest : List ℕ
  pub bytes_are : bytes ≡ letter ∷ 32 ∷ rest
  pub unbroken : is_separator letter ≡ false
  pub is : kind (letter ∷ []) ≡ ThisWord word
  pub no_comment : (format : Comments) → is_comment_byte format letter ≡ false

-- each of these bytes separates tokens
abbrev pub IsGap : List ℕ → Type 0
IsGap gap = AllByRecursion (λ b. is_separator b ≡ true) gap

-- the bytes between two places separate tokens
abbrev pub IsGapTo : List ℕ → (from to : ℕ) → Type 0
IsGapTo bytes from to = (from ≤ to) × IsGap (take (to - from) (drop from bytes))

-- the first `len` bytes are separators, if any, a run that is this number, and the separator after it
pub record ComesNumber (bytes : List ℕ) (len : ℕ) (value : ℤ) : Type 0 where
  pub gap : List ℕ
  pub rest : List ℕ
  pub is_gap : IsGap gap
  pub bytes_are : bytes ≡ gap ++ rest
  pub number : BeginsWithValue rest (len - length gap) value

-- separators stand at these places
abbrev pub AreSeparators : List ℕ → List ℕ → Type 0
AreSeparators bytes places = (i : ℕ) → i < length places → is_separator (slice_index_or bytes (slice_index_or places i 0) 0) ≡ true

-- a number stands at its place among the bytes of the window, after separators, if any, and the next place is after its separator
abbrev pub NumberStands : (whole places : List ℕ) → (k : ℕ) → ℤ → Type 0
NumberStands whole places k value = (slice_index_or places (k + 1) 0 ≤ length whole)
    × ComesNumber (drop (slice_index_or places k 0) whole) (slice_index_or places (k + 1) 0 - slice_index_or places k 0) value

-- numbers stand at their places, from one of them on
abbrev pub StandFrom : (whole places : List ℕ) → (k : ℕ) → List ℤ → Type 0
StandFrom whole places k values = (i : ℕ) → i < length values → NumberStands whole places (k + i) (slice_index_or values i (pos 0))

-- numbers are put in the place of others, and those before them stay
pub record IsPut (old new values : List ℤ) (k : ℕ) : Type 0 where
  pub same_len : length new ≡ length old
  pub before : (j : ℕ) → j < k → slice_index_or new j (pos 0) ≡ slice_index_or old j (pos 0)
  pub there : (i : ℕ) → i < length values → slice_index_or new (k + i) (pos 0) ≡ slice_index_or values i (pos 0)

-- each number has 32 bits
abbrev pub AreShort : List ℤ → Type 0
AreShort values = Each1 (λ v. unsigned_abs v < 2 ^ 31) values

-- the place in the window where a number begins
abbrev pub place : Numbers → ℕ → ℕ
place n k = slice_index_or n.places k 0

-- numbers from one of them on seem to end at these places: each next one begins after the separator there
abbrev pub SeemToEnd : Numbers → (k : ℕ) → List ℕ → Type 0
SeemToEnd n k ends = (i : ℕ) → i < length ends → slice_index_or ends i 0 < 4096 → place n (k + i + 1) ≡ slice_index_or ends i 0 + 1

-- each of these places is reached through separators alone, if any, from where a number begins, from one of the numbers on
abbrev pub AreAfterGaps : Numbers → List ℕ → (k : ℕ) → List ℕ → Type 0
AreAfterGaps n bytes k starts = (i : ℕ) → i < length starts → IsGapTo bytes (place n (k + i)) (slice_index_or starts i 0)

-- where the last eight bytes begin of those between two places, or the first place
abbrev pub IsTail : (start tail end : ℕ) → Type 0
IsTail start tail end = (start ≡ tail) ⊎ ((start < tail) × (tail + 8 ≡ end))

-- four numbers between places, of which the last eight bytes are known to write numbers
pub record AreTails (bytes : List ℕ) (f : FourTails) : Type 0 where
  pub tails : (i : ℕ) → i < 4 → IsTail (slice_index_or f.starts i 0) (slice_index_or f.tails i 0) (slice_index_or f.ends i 0)
  pub numbers : (i : ℕ) → i < 4
      → IsNumber bytes (slice_index_or f.tails i 0) (slice_index_or f.ends i 0) (slice_index_or f.values i (pos 0))
  pub within : (i : ℕ) → i < 4 → slice_index_or f.ends i 0 < length bytes
  pub separate : (i : ℕ) → i < 4 → is_separator (slice_index_or bytes (slice_index_or f.ends i 0) 0) ≡ true

-- they are those from one of the numbers of a window on
pub record AreTailsFrom (n : Numbers) (bytes : List ℕ) (f : FourTails) : Type 0 where
  pub tails : AreTails bytes f
  pub gaps : (i : ℕ) → i < 4 → IsGapTo bytes (place n (f.first + i)) (slice_index_or f.starts i 0)
  pub next : (i : ℕ) → i < 4 → place n (f.first + i + 1) ≡ slice_index_or f.ends i 0 + 1

-- the number of bytes of the first `count` numbers that are not passed, with the separator after each
abbrev pub len_of : Numbers → ℕ → ℕ
len_of n count = place n (n.first + count) - place n n.first

-- the numbers that are known and not passed stand one after the other from a place of the window on
pub record AreHeld (n : Numbers) (whole : List ℕ) (start : ℕ) : Type 0 where
  pub few : n.known ≤ 2048
  pub front : n.first < n.known → place n n.first ≡ start
  pub stand : (k : ℕ) → n.first ≤ k → k < n.known → NumberStands whole n.places k (slice_index_or (held n) k (pos 0))

-- of the numbers that seem to end before the number `runs` those before the number `k` are put, and stand from a place of the window on
pub record FillsTo (n : Numbers) (whole : List ℕ) (start runs k : ℕ) : Type 0 where
  pub values_len : length (held n) ≡ 2048
  pub few : runs ≤ 2048
  pub first : n.first ≤ k
  pub before : k ≤ runs
  pub front : place n n.first ≡ start
  pub within : place n k ≤ length whole
  pub stand : (j : ℕ) → n.first ≤ j → j < k → NumberStands whole n.places j (slice_index_or (held n) j (pos 0))

-- they stand at the front of these bytes
pub record StandInFront (n : Numbers) (bytes : List ℕ) : Type 0 where
  pub whole : List ℕ
  pub start : ℕ
  pub rest : bytes ≡ drop start whole
  pub held : AreHeld n whole start

-- the cursor after so many of them, of which the first stands at a cursor and at the front of these bytes
abbrev pub cursor_to : Numbers → List ℕ → Cursor → ℕ → Cursor
cursor_to n bytes from zero = from
cursor_to n bytes from (suc count) = record {
  at = len_of n (suc count);
  line = line_number (from.line + count_by is_line_end (take (len_of n (suc count)) bytes));
  tokens = one_if (not (is_line_end (slice_index_or bytes (len_of n (suc count) - 1) 0)));
}

-- a list is the part of the numbers from a place on
abbrev pub IsPart : (list values : List ℤ) → (start : ℕ) → Type 0
IsPart list values start = (k : ℕ) → k < length list → slice_index_or list k (pos 0) ≡ slice_index_or values (start + k) (pos 0)
