-- Numbers in two parts.
use Rattle.qbf_tokens.proofs.Cited.{◌≡◌, ℕ, ◌+◌, ◌-◌, ◌^◌, ◌<◌, Bool, true, false, List, [], ◌∷◌, length, refl, sym, ap, ◌∙◌, arith}
use Rattle.qbf_tokens.proofs.Cited.{nat_tests, common_steps}
use Rattle.window_numbers.proofs.Cited.{zero, suc, nat_eq, take, drop, get_or, eqb-true, Number}
use Rattle.std.specs.Prelude.{ℤ, pos, negsuc, unsigned_abs, int_lt, slice_range, if◌then◌else◌}
use Rattle.std.proofs.lemmas.List.{get_or-drop, get_or-take, length-take}
use Rattle.qbf_tokens.specs.NumberTokens.{token_of}
use Rattle.window_numbers.specs.Numbers.{IsPart}
use Rattle.std.specs.List.{AllByRecursion}
use Rattle.window_numbers.specs.Values.{value_of, parted}

not_mark : (d : ℕ) → d < 2147483647 → nat_eq d 2147483647 ≡ false
not_mark d less = grind (arith, nat_tests, less)

-- a short number is itself
pub short_is : (s : ℤ) (l : ℕ) → unsigned_abs s < 2 ^ 31 → value_of s l ≡ s
short_is (pos d) l less = refl
short_is (negsuc d) l less =
    let other = not_mark d (omega (arith, less)) in ap (λ b. if b then pos l else negsuc d) other

pub length_parted : (ss : List ℤ) (ls : List ℕ) → length (parted ss ls) ≡ length ss
unfolding parted
length_parted [] ls = refl
length_parted (s ∷ ss) [] = ap suc (length_parted ss [])
length_parted (s ∷ ss) (l ∷ ls) = ap suc (length_parted ss ls)

-- the number at a place
pub parted_at : (ss : List ℤ) (ls : List ℕ) (k : ℕ) → get_or (parted ss ls) k (pos 0) ≡ value_of (get_or ss k (pos 0)) (get_or ls k 0)
unfolding parted
parted_at [] ls k = refl
parted_at (s ∷ ss) [] zero = refl
parted_at (s ∷ ss) [] (suc k) = parted_at ss [] k
parted_at (s ∷ ss) (l ∷ ls) zero = refl
parted_at (s ∷ ss) (l ∷ ls) (suc k) = parted_at ss ls k

-- a part of the numbers has the parts of the two lists
pub part_of : (ss : List ℤ) (ls : List ℕ) (a b : ℕ) → IsPart (parted (slice_range ss a b) (slice_range ls a b)) (parted ss ls) a
part_of ss ls a b k less =
    let few : k < b - a =
    omega (arith, less, length_parted (slice_range ss a b) (slice_range ls a b), length-take (b - a) (drop a ss)) in
    parted_at (slice_range ss a b) (slice_range ls a b) k
    ∙ ap (λ s. value_of s (get_or (slice_range ls a b) k 0)) (get_or-take (b - a) (drop a ss) k (pos 0) few ∙ get_or-drop a ss k (pos 0))
    ∙ ap (value_of (get_or ss (a + k) (pos 0))) (get_or-take (b - a) (drop a ls) k 0 few ∙ get_or-drop a ls k 0)
    ∙ sym (parted_at ss ls (a + k))

-- ---- short numbers

drop_none : (m : ℕ) → drop {A = ℕ} m [] ≡ []
drop_none zero = refl
drop_none (suc m) = refl

drop_parted : (m : ℕ) (ss : List ℤ) (ls : List ℕ) → drop m (parted ss ls) ≡ parted (drop m ss) (drop m ls)
unfolding parted
drop_parted zero ss ls = refl
drop_parted (suc m) [] ls = refl
drop_parted (suc m) (s ∷ ss) [] = drop_parted m ss [] ∙ ap (parted (drop m ss)) (drop_none m)
drop_parted (suc m) (s ∷ ss) (l ∷ ls) = drop_parted m ss ls

take_short : (n : ℕ) (ss : List ℤ) (ls : List ℕ) → AllByRecursion (λ v. unsigned_abs v < 2 ^ 31) (take n ss)
    → take n ss ≡ take n (parted ss ls)
unfolding parted
take_short zero ss ls h = refl
take_short (suc n) [] ls h = refl
take_short (suc n) (s ∷ ss) [] h =
    ap (λ x. x ∷ take n ss) (sym (short_is s 0 h.0)) ∙ ap (λ l. value_of s 0 ∷ l) (take_short n ss [] h.1)
take_short (suc n) (s ∷ ss) (l ∷ ls) h =
    ap (λ x. x ∷ take n ss) (sym (short_is s l h.0)) ∙ ap (λ r. value_of s l ∷ r) (take_short n ss ls h.1)

-- short numbers between two places are themselves
pub short_range : (ss : List ℤ) (ls : List ℕ) (a b : ℕ) → AllByRecursion (λ v. unsigned_abs v < 2 ^ 31) (slice_range ss a b)
    → slice_range ss a b ≡ slice_range (parted ss ls) a b
short_range ss ls a b h =
    take_short (b - a) (drop a ss) (drop a ls) h ∙ ap (take (b - a)) (sym (drop_parted a ss ls))

-- ---- tokens

plain_is : (d : ℕ) → int_lt (pos d) (pos 0) ≡ false
plain_is d = grind (arith, common_steps)

-- a number without a sign
pub plain_token : (s : ℤ) (l : ℕ) → int_lt s (pos 0) ≡ false → Number false (unsigned_abs s) ≡ token_of (value_of s l)
plain_token (pos d) l plain = ap (λ b. Number b d) (sym (plain_is d))
plain_token (negsuc d) l plain = cc never
  where
    never : true ≡ false
    never = plain

-- a long one
pub long_token : (s : ℤ) (l : ℕ) → s ≡ negsuc 2147483647 → Number false l ≡ token_of (value_of s l)
long_token s l is = ap (λ b. Number b l) (sym (plain_is l)) ∙ ap (λ x. token_of (value_of x l)) (sym is)

-- a negative one
pub minus_token : (s : ℤ) (l : ℕ) → int_lt s (pos 0) ≡ true → (s ≡ negsuc 2147483647 → ⊥)
    → Number true (unsigned_abs s) ≡ token_of (value_of s l)
minus_token (pos d) l minus other = absurd (let never : false ≡ true = sym (plain_is d) ∙ minus in cc never)
minus_token (negsuc d) l minus other = ap (λ v. token_of v) (sym is)
  where
    mark : (b : Bool) → nat_eq d 2147483647 ≡ b → value_of (negsuc d) l ≡ negsuc d
    mark true e = absurd (other (ap negsuc (eqb-true d 2147483647 e)))
    mark false e = ap (λ b. if b then pos l else negsuc d) e

    is : value_of (negsuc d) l ≡ negsuc d
    is = mark (nat_eq d 2147483647) refl
