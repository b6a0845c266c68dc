-- One more digit.
use Rattle.qbf_tokens.proofs.Cited.{rules, ◌≡◌, ℕ, ◌+◌, ◌-◌, ◌*◌, ◌^◌, ◌<◌, ◌≤◌, Bool, true, false, not, ◌&&◌, List, [], ◌∷◌, ◌++◌, refl}
use Rattle.qbf_tokens.proofs.Cited.{sym, ◌∙◌, arith, if◌then◌else◌, common_steps, all_ascii_digits, is_ascii_digit, nat_tests, Digits}
use Rattle.qbf_tokens.proofs.Cited.{Value, Big, Other, magnitude, digits_of}
use Rattle.std.proofs.Common.{nat_lt}
use Rattle.std.proofs.lemmas.List.Sums.{fold-append}

and_true : (b : Bool) → (b && true) ≡ b
and_true b = search rules

and_assoc : (x y z : Bool) → {w : Bool} → w ≡ (y && z) → (x && w) ≡ ((x && y) && z)
and_assoc x y z e = search rules

and_false : (b : Bool) → (b && false) ≡ false
and_false b = search rules

pub all-push : (ds : List ℕ) (b : ℕ) → all_ascii_digits (ds ++ b ∷ []) ≡ (all_ascii_digits ds && is_ascii_digit b)
all-push [] b = and_true (is_ascii_digit b)
all-push (d ∷ ds) b = and_assoc (is_ascii_digit d) (all_ascii_digits ds) (is_ascii_digit b) (all-push ds b)

pub magnitude-push : (ds : List ℕ) (b : ℕ) → magnitude (ds ++ b ∷ []) ≡ 10 * magnitude ds + (b - 48)
magnitude-push ds b = fold-append (λ n digit. 10 * n + (digit - 48)) 0 ds (b ∷ [])

-- the kept digits, by whether all are digits, and by the value that they write
abbrev pub pack : Bool → ℕ → Digits
pack all m = if not all then Other else (if not (nat_lt m (2 ^ 64)) then Big else Value m)

pub pack_small : (m : ℕ) → m < 2 ^ 64 → pack true m ≡ Value m
pack_small m h = grind (arith, nat_tests)

pub pack_large : (m : ℕ) → 2 ^ 64 ≤ m → pack true m ≡ Big
pack_large m h = grind (arith, nat_tests)

pub digits-push : (ds : List ℕ) (b : ℕ)
    → digits_of (ds ++ b ∷ []) ≡ pack (all_ascii_digits ds && is_ascii_digit b) (10 * magnitude ds + (b - 48))
digits-push ds b = rw (all-push, magnitude-push) refl

value_is : (all : Bool) (m n : ℕ) → Value n ≡ pack all m → (all ≡ true) × (n ≡ m)
value_is all m n h = search rules

big_is : (all : Bool) (m : ℕ) → Big ≡ pack all m → (all ≡ true) × (2 ^ 64 ≤ m)
big_is all m h = search rules

other_is : (all : Bool) (m : ℕ) → Other ≡ pack all m → all ≡ false
other_is all m h = search rules

-- the facts that the kept digits tell of all of them
pub known_value : (ds : List ℕ) (n : ℕ) → Value n ≡ digits_of ds → (all_ascii_digits ds ≡ true) × (n ≡ magnitude ds)
known_value ds n e = value_is _ _ n e

pub known_big : (ds : List ℕ) → Big ≡ digits_of ds → (all_ascii_digits ds ≡ true) × (2 ^ 64 ≤ magnitude ds)
known_big ds e = big_is _ _ e

pub known_other : (ds : List ℕ) → Other ≡ digits_of ds → all_ascii_digits ds ≡ false
known_other ds e = other_is _ _ e

-- one more byte, after each
pub push_no_digit : (ds : List ℕ) (b : ℕ) → is_ascii_digit b ≡ false → Other ≡ digits_of (ds ++ b ∷ [])
push_no_digit ds b h = sym (digits-push ds b ∙ rw h (rw and_false refl))

pub push_small : (ds : List ℕ) (b n : ℕ) → is_ascii_digit b ≡ true → Value n ≡ digits_of ds → 10 * n + (b - 48) < 2 ^ 64
    → Value (10 * n + (b - 48)) ≡ digits_of (ds ++ b ∷ [])
push_small ds b n h e fits = grind (arith, common_steps, known_value, digits-push, pack_small)

pub push_past : (ds : List ℕ) (b n : ℕ) → is_ascii_digit b ≡ true → Value n ≡ digits_of ds → 2 ^ 64 ≤ 10 * n + (b - 48)
    → Big ≡ digits_of (ds ++ b ∷ [])
push_past ds b n h e past = grind (arith, common_steps, known_value, digits-push, pack_large)

-- by the test whether a digit more fits
pub push_taken : (ds : List ℕ) (b n d : ℕ) → is_ascii_digit b ≡ true → Value n ≡ digits_of ds → d ≡ b - 48
    → nat_lt (10 * n + d) (2 ^ 64) ≡ true → Value (10 * n + d) ≡ digits_of (ds ++ b ∷ [])
push_taken ds b n d h e is t = rw is (push_small ds b n h e (grind (arith, nat_tests)))

pub push_not_taken : (ds : List ℕ) (b n d : ℕ) → is_ascii_digit b ≡ true → Value n ≡ digits_of ds → d ≡ b - 48
    → nat_lt (10 * n + d) (2 ^ 64) ≡ false → Big ≡ digits_of (ds ++ b ∷ [])
push_not_taken ds b n d h e is t = push_past ds b n h e (grind (arith, nat_tests))

pub push_big : (ds : List ℕ) (b : ℕ) → is_ascii_digit b ≡ true → Big ≡ digits_of ds → Big ≡ digits_of (ds ++ b ∷ [])
push_big ds b h e = grind (arith, common_steps, known_big, digits-push, pack_large)

pub push_other : (ds : List ℕ) (b : ℕ) → Other ≡ digits_of ds → Other ≡ digits_of (ds ++ b ∷ [])
push_other ds b e = sym (digits-push ds b ∙ rw (known_other ds e) refl)

pub ruleset pushes = (push_no_digit, push_small, push_past, push_big, push_other)
