-- One mask marks the first byte of a word that is not a digit.
use Rattle.std.proofs.Common.{rules, ℕ, zero, suc, ◌≡◌, ◌+◌, ◌*◌, ◌/◌, ◌%◌, ◌^◌, ◌<◌, ◌≤◌, min, Bool, true, cond, ltb, eqb, List, [], ◌∷◌}
use Rattle.std.proofs.Common.{length, arith, bit_and, bit_or, refl, sym, ap, ◌∙◌, inl, inr, eqb-true, lt-ltb, le-ltb}
use Rattle.std.proofs.lemmas.Grind.{common_steps}
use lib.Count.{count_trailing_zeros}
use Rattle.std.specs.List.{prefix_len}
use Rattle.std.specs.Int.Digits.{AllBelowBase}
use Rattle.std.proofs.lemmas.Bool.{agree_below_at, cond-true, cond-false, cases_lt}
use Rattle.std.proofs.lemmas.Nat.{and_block, or_block, mod-pow-add, or_of_8}
use Rattle.decimal.specs.Word.{word}

-- ---- zeros below a byte
even : (k m x : ℕ) → x ≡ m * 2 → count_trailing_zeros (suc k) x ≡ suc (count_trailing_zeros k m)
unfolding count_trailing_zeros
even k m x e = search rules

odd : (k m x : ℕ) → x ≡ m * 2 + 1 → count_trailing_zeros (suc k) x ≡ 0
unfolding count_trailing_zeros
odd k m x e = search rules

pub seven : (k m : ℕ) → count_trailing_zeros (k + 8) (m * 256 + 128) ≡ 7
seven k m =
    let s : k + 8 ≡ suc (suc (suc (suc (suc (suc (suc (suc k))))))) = omega arith in
    ap (λ j. count_trailing_zeros j (m * 256 + 128)) s
    ∙ even _ (m * 128 + 64) _ (omega arith)
    ∙ ap suc (even _ (m * 64 + 32) _ (omega arith))
    ∙ ap (λ j. suc (suc j)) (even _ (m * 32 + 16) _ (omega arith))
    ∙ ap (λ j. suc (suc (suc j))) (even _ (m * 16 + 8) _ (omega arith))
    ∙ ap (λ j. suc (suc (suc (suc j)))) (even _ (m * 8 + 4) _ (omega arith))
    ∙ ap (λ j. suc (suc (suc (suc (suc j))))) (even _ (m * 4 + 2) _ (omega arith))
    ∙ ap (λ j. suc (suc (suc (suc (suc (suc j)))))) (even _ (m * 2 + 1) _ (omega arith))
    ∙ ap (λ j. suc (suc (suc (suc (suc (suc (suc j))))))) (odd k m _ (omega arith))

pub eight : (k m : ℕ) → count_trailing_zeros (k + 8) (m * 256) ≡ count_trailing_zeros k m + 8
eight k m =
    let s : k + 8 ≡ suc (suc (suc (suc (suc (suc (suc (suc k))))))) = omega arith in
    let e : count_trailing_zeros k m + 8 ≡ suc (suc (suc (suc (suc (suc (suc (suc (count_trailing_zeros k m)))))))) = omega arith in
    ap (λ j. count_trailing_zeros j (m * 256)) s
    ∙ even _ (m * 128) _ (omega arith)
    ∙ ap suc (even _ (m * 64) _ (omega arith))
    ∙ ap (λ j. suc (suc j)) (even _ (m * 32) _ (omega arith))
    ∙ ap (λ j. suc (suc (suc j))) (even _ (m * 16) _ (omega arith))
    ∙ ap (λ j. suc (suc (suc (suc j)))) (even _ (m * 8) _ (omega arith))
    ∙ ap (λ j. suc (suc (suc (suc (suc j))))) (even _ (m * 4) _ (omega arith))
    ∙ ap (λ j. suc (suc (suc (suc (suc (suc j)))))) (even _ (m * 2) _ (omega arith))
    ∙ ap (λ j. suc (suc (suc (suc (suc (suc (suc j))))))) (even k m _ (omega arith))
    ∙ sym e

-- ---- one byte repeated, and the bits of n bytes
abbrev pub splat : ℕ → ℕ → ℕ
splat y zero = 0
splat y (suc n) = splat y n * 256 + y

abbrev pub wide : ℕ → ℕ
wide zero = 0
wide (suc n) = wide n + 8

abbrev pub Bytes : List ℕ → Type 0
Bytes [] = Unit {0}
Bytes (b ∷ bs) = (b < 256) × Bytes bs

abbrev pub is_small : ℕ → Bool
is_small b = ltb b 10

abbrev pub marks : ℕ → ℕ → ℕ
marks n t = bit_and (bit_or ((t + splat 118 n) % 2 ^ wide n) t) (splat 128 n)

-- at each of the 256 bytes, by computing
abbrev byte_mark : ℕ → ℕ
byte_mark b = bit_and (bit_or ((b + 118) % 256) b) 128

low_mark : (b : ℕ) → b < 256 → byte_mark b ≡ cond (is_small b) 0 128
low_mark b fits = eqb-true _ _ (agree_below_at (λ x. eqb (byte_mark x) (cond (is_small x) 0 128)) (λ _. true) 256 b refl fits)

-- the mask of one byte more
more : (n t b : ℕ) → b < 256 → marks (suc n) (t * 256 + b)
    ≡ bit_and (bit_or (((t * 256 + b + (splat 118 n * 256 + 118)) / 256) % 2 ^ wide n) t) (splat 128 n) * 256 + byte_mark b
more n t b fits =
    let s = t * 256 + b + (splat 118 n * 256 + 118) in
    let cut : s % 2 ^ (wide n + 8) ≡ (s / 256 % 2 ^ wide n) * 256 + s % 256 = mod-pow-add s (wide n) 8 in
    let low : s % 256 ≡ (b + 118) % 256 = omega arith in
    let h = s / 256 % 2 ^ wide n in
    let l = (b + 118) % 256 in
    let sum : s % 2 ^ (wide n + 8) ≡ h * 256 + l = cut ∙ ap (λ y. h * 256 + y) low in
    let ors : bit_or (h * 256 + l) (t * 256 + b) ≡ bit_or h t * 256 + bit_or l b = or_block 8 h t l b (omega arith) fits in
    let ands : bit_and (bit_or h t * 256 + bit_or l b) (splat 128 n * 256 + 128) ≡ bit_and (bit_or h t) (splat 128 n) * 256 + bit_and
    (bit_or l b) 128 = and_block 8 (bit_or h t) (splat 128 n) (bit_or l b) 128 (or_of_8 l b (omega arith) fits) (omega arith) in
    ap (λ y. bit_and (bit_or y (t * 256 + b)) (splat 128 n * 256 + 128)) sum ∙ ap (λ y. bit_and y (splat 128 n * 256 + 128)) ors ∙ ands

more_small : (n t b : ℕ) → b < 10 → marks (suc n) (t * 256 + b) ≡ marks n t * 256
more_small n t b small = grind (arith, common_steps, low_mark, cond-true, lt-ltb, more)

more_large : (n t b : ℕ) → b < 256 → 10 ≤ b → marks (suc n) (t * 256 + b)
    ≡ bit_and (bit_or (((t * 256 + b + (splat 118 n * 256 + 118)) / 256) % 2 ^ wide n) t) (splat 128 n) * 256 + 128
more_large n t b fits large = grind (arith, common_steps, low_mark, cond-false, le-ltb, more)

-- if no byte is marked, each is below ten
pub no_mark : (bs : List ℕ) → Bytes bs → marks (length bs) (word bs) ≡ 0 → AllBelowBase 10 bs
unfolding word
no_mark [] h e = tt
no_mark (b ∷ bs) h e =
    let n = length bs in
    let t = word bs in
    elim (cases_lt b 10) [
      | inl small ↦ (small, no_mark bs h.1 (omega (arith, e, more_small n t b small)))
      | inr large ↦ absurd (omega (arith, e, more_large n t b h.0 large))
    ]

-- the place of the first mark
pub first_mark : (bs : List ℕ) → Bytes bs
    → count_trailing_zeros (wide (length bs)) (marks (length bs) (word bs)) ≡ min (prefix_len is_small bs * 8 + 7) (wide (length bs))
unfolding word count_trailing_zeros
first_mark [] h = refl
first_mark (b ∷ bs) h =
    let n = length bs in
    let t = word bs in
    elim (cases_lt b 10) [
      | inl small ↦
          let p : prefix_len is_small (b ∷ bs) ≡ 1 + prefix_len is_small bs = cond-true _ _ _ (lt-ltb b 10 small) in
          let c : count_trailing_zeros (wide n + 8) (marks (suc n) (t * 256 + b)) ≡ count_trailing_zeros (wide n) (marks n t) + 8 =
          ap (count_trailing_zeros (wide n + 8)) (more_small n t b small) ∙ eight (wide n) (marks n t) in
          omega (arith, p, c, first_mark bs h.1)
      | inr large ↦
          let p : prefix_len is_small (b ∷ bs) ≡ 0 = cond-false _ _ _ (le-ltb b 10 large) in
          let c : count_trailing_zeros (wide n + 8) (marks (suc n) (t * 256 + b)) ≡ 7 =
          ap (count_trailing_zeros (wide n + 8)) (more_large n t b h.0 large) ∙ seven (wide n) _ in
          omega (arith, p, c)
    ]
