-- If no lane of the greatest is marked, each lane is below ten.
use Rattle.std.proofs.lemmas.Grind.{common_steps}
use Rattle.std.proofs.Common.{Fits, eqb, eqb-true, true, ℕ, zero, ◌≡◌, ◌<◌, ◌%◌, ◌^◌, cond, ltb, List, [], ◌∷◌, map, length}
use Rattle.std.proofs.Common.{replicate, arith, refl, ap, ◌∙◌, w8}
use Rattle.std.specs.Simd.Lanes.{zip2, Each1, sel_l, mask_l, top}
use Rattle.std.proofs.lemmas.Simd.{tops_compared, zip2_splat_left, mask_l-mod, length-zip2}
use Rattle.std.proofs.lemmas.List.{length-map}

abbrev less : ℕ → ℕ → ℕ
less a b = cond (ltb a b) 255 0

abbrev greater : ℕ → ℕ → ℕ
greater a b = cond (ltb a b) b a

abbrev Small : List ℕ → Type 0
Small xs = Each1 (λ x. x < 10) xs

-- as `simd_max` computes it
abbrev greatest : List ℕ → List ℕ → List ℕ
greatest xs ys = sel_l (map (top 7) (zip2 less xs ys)) ys xs

chosen : (xs ys : List ℕ) → sel_l (zip2 ltb xs ys) ys xs ≡ zip2 greater xs ys
chosen [] ys = refl
chosen (x ∷ xs) [] = refl
chosen (x ∷ xs) (y ∷ ys) = ap (λ l. greater x y ∷ l) (chosen xs ys)

greatest_is : (xs ys : List ℕ) → greatest xs ys ≡ zip2 greater xs ys
greatest_is xs ys = ap (λ ms. sel_l ms ys xs) (tops_compared w8 ltb xs ys) ∙ chosen xs ys

bit_small : (x : ℕ) → cond (ltb 9 x) 1 zero ≡ 0 → x < 10
bit_small x e = grind (arith, common_steps)

none : (xs : List ℕ) → mask_l (map (ltb 9) xs) ≡ 0 → Small xs
none [] e = tt
none (x ∷ xs) e = (bit_small x (omega (arith, e)), none xs (omega (arith, e)))

two_small : (x y : ℕ) → greater x y < 10 → (x < 10) × (y < 10)
two_small x y h = grind (arith, common_steps)

both : (xs ys : List ℕ) → length xs ≡ length ys → Small (zip2 greater xs ys) → Small xs × Small ys
both [] [] e h = (tt, tt)
both [] (y ∷ ys) e h = absurd (omega arith)
both (x ∷ xs) [] e h = absurd (omega arith)
both (x ∷ xs) (y ∷ ys) e h = grind (arith, common_steps, two_small, (both xs ys (omega (arith, e)) h.1))

pub all_small : (xs : List ℕ) → (length xs ≡ 16) × Each1 (Fits w8) xs
    → eqb (mask_l (map (top 7) (zip2 less (replicate 16 9) xs)) % 2 ^ 64) 0 ≡ true → Small xs
all_small xs fits is =
    let marks : mask_l (map (top 7) (zip2 less (replicate 16 9) xs)) % 2 ^ 64 ≡ mask_l (map (ltb 9) xs) =
    ap (λ l. mask_l l % 2 ^ 64) (tops_compared w8 ltb (replicate 16 9) xs ∙ zip2_splat_left ltb 9 16 xs fits.0)
    ∙ mask_l-mod (map (ltb 9) xs) 64 (omega (arith, length-map xs (ltb 9), fits.0)) in
    none xs (omega (arith, marks, eqb-true _ _ is))

pub all_three : (a b c : List ℕ) → length a ≡ 16 → length b ≡ 16 → length c ≡ 16 → Small (greatest (greatest a b) c)
    → Small a × Small b × Small c
all_three a b c la lb lc small = grind (arith, common_steps, zip2, length-zip2, greatest_is, both)
