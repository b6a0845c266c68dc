-- The kind of a run from what is kept of it.
use Rattle.qbf_tokens.proofs.Cited.{rules, ◌≡◌, ℕ, Bool, true, false, cond, ◌&&◌, ◌==◌, List, ◌∷◌, Option, Some, None, refl, sym}
use Rattle.qbf_tokens.proofs.Cited.{if◌then◌else◌, Digits, Value, Big, Other, Token, numeral, number, kind, digits_of, begins_with_minus}
use Rattle.qbf_tokens.proofs.Cited.{after_minus, begins_number}
use Rattle.qbf_tokens.specs.Tokens.{word, word_or_bad}
use Rattle.qbf_tokens.specs.declared.token.Token.TheVariants as kinds

-- the token of a numeral, by its kept digits
abbrev pub numeral_kept : Bool → Digits → Option Token
numeral_kept negative Other = None
numeral_kept negative Big = Some kinds.Big
numeral_kept negative (Value n) = if negative && (n == 0) then None else Some (kinds.Number negative n)

signed : (minus : Bool) (b : ℕ) (bs : List ℕ)
    → cond minus (numeral true bs) (numeral false (b ∷ bs)) ≡ numeral_kept minus (digits_of (cond minus bs (b ∷ bs)))
signed minus b bs = search rules

pub number_is : (run : List ℕ) → begins_number run ≡ true → number run ≡ numeral_kept (begins_with_minus run) (digits_of (after_minus run))
number_is run h = search rules

pub kind_number : (run : List ℕ) (n : ℕ) (negative : Bool) → begins_number run ≡ true → Value n ≡ digits_of (after_minus run)
    → negative ≡ begins_with_minus run → (negative && (n == 0)) ≡ false → kinds.Number negative n ≡ kind run
kind_number run n negative begins d s e = sym (rw (number_is run begins, ← d, ← s, e) refl)

pub kind_big : (run : List ℕ) → begins_number run ≡ true → Big ≡ digits_of (after_minus run) → kinds.Big ≡ kind run
kind_big run begins d = sym (rw (number_is run begins, ← d) refl)

-- ---- a run that begins as a number does is not a word

no_word : (run : List ℕ) → begins_number run ≡ true → word run ≡ None
no_word run h = search rules

pub kind_bad : (run : List ℕ) (digits : Digits) (negative : Bool) → begins_number run ≡ true → digits ≡ digits_of (after_minus run)
    → negative ≡ begins_with_minus run → numeral_kept negative digits ≡ None → kinds.Bad ≡ kind run
kind_bad run digits negative begins d s e = sym (rw (number_is run begins, ← d, ← s, e, no_word run begins) refl)

-- ---- another run is not a number

pub no_number : (run : List ℕ) → begins_number run ≡ false → number run ≡ None
no_number run h = search rules

pub kind_word : (run : List ℕ) → begins_number run ≡ false → word_or_bad (word run) ≡ kind run
kind_word run begins = sym (rw (no_number run begins) refl)

pub ruleset kinds_kept = (kind_number, kind_big, kind_bad, kind_word)
