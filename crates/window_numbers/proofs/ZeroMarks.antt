-- Lanes of a mask that was changed, and lanes that are zero.
use Rattle.std.proofs.Common.{ℕ, zero, suc, true, false, ◌≡◌, ◌+◌, ◌*◌, ◌%◌, ◌<◌, Bool, cond, eqb, List, [], ◌∷◌, map, length, get_or}
use Rattle.std.proofs.Common.{replicate, arith, refl, ap, ap₂, ◌∙◌, subst, Fits, w8, w32, w64}
use Rattle.std.specs.Simd.Lanes.{zip2, Each1, sel_l, top, number_l, digits_l, chunk}
use Rattle.std.proofs.lemmas.Simd.{get_or_wider, get_or_narrower, Each1-get_or, get_or-replicate, get_or-sel_l, get_or-zip2}
use Rattle.std.proofs.lemmas.Simd.{tops_compared, below_from_Fits, length-zip2}
use Rattle.window_numbers.specs.Lanes.{sign_of}

abbrev wide : List ℕ → List ℕ
wide xs = digits_l 18446744073709551616 2 (number_l 256 xs)

two_lanes : (xs : List ℕ) → Each1 (Fits w8) xs → wide xs ≡ number_l 256 (chunk 0 8 xs) ∷ number_l 256 (chunk 8 8 xs) ∷ []
two_lanes xs fits =
    let h = below_from_Fits w8 xs fits in
    ap₂ (λ x y. x ∷ y ∷ []) (get_or_wider 256 8 18446744073709551616 2 xs 0 refl h (omega arith))
    (get_or_wider 256 8 18446744073709551616 2 xs 1 refl h (omega arith))

pub signs_are : (now whole : List ℕ) → (length now ≡ 16) × Each1 (Fits w8) now → (length whole ≡ 16) × Each1 (Fits w8) whole
    → sel_l (map (top 63) (zip2 (λ a b. cond (eqb a b) 18446744073709551615 0) (wide now) (wide whole)))
    (0 ∷ 0 ∷ []) (4294967295 ∷ 4294967295 ∷ [])
    ≡ sign_of (chunk 0 8 now) (chunk 0 8 whole) ∷ sign_of (chunk 8 8 now) (chunk 8 8 whole) ∷ []
unfolding sign_of
signs_are now whole h g =
    ap (λ ms. sel_l ms (0 ∷ 0 ∷ []) (4294967295 ∷ 4294967295 ∷ [])) (tops_compared w64 eqb (wide now) (wide whole))
    ∙ ap₂ (λ us vs. sel_l (zip2 eqb us vs) (0 ∷ 0 ∷ []) (4294967295 ∷ 4294967295 ∷ [])) (two_lanes now h.1) (two_lanes whole g.1)

below : (ms : List Bool) (ss : List ℕ) (n : ℕ) → Each1 (λ x. x < 4294967296) ss → Each1 (λ x. x < 4294967296) (sel_l ms ss (replicate n 0))
below [] ss n h = tt
below (m ∷ ms) [] n h = tt
below (m ∷ ms) (s ∷ ss) zero h = tt
below (true ∷ ms) (s ∷ ss) (suc n) h = (h.0, below ms ss n h.1)
below (false ∷ ms) (s ∷ ss) (suc n) h = (omega arith, below ms ss n h.1)

pub no_sign : (vs ss : List ℕ) → (length vs ≡ 4) × Each1 (Fits w32) vs → (length ss ≡ 4) × Each1 (Fits w32) ss
    → Each1 (λ x. x < 10) (digits_l 256 16 (number_l 4294967296
    (sel_l (map (top 31) (zip2 (λ a b. cond (eqb a b) 4294967295 0) vs (replicate 4 0))) ss (replicate 4 0))))
    → (i : ℕ) → i < 4 → get_or vs i 0 ≡ 0 → get_or ss i 0 % 256 < 10
no_sign vs ss fv fs small i few none =
    let ms = zip2 eqb vs (replicate 4 0) in
    let ws = sel_l ms ss (replicate 4 0) in
    let is : sel_l (map (top 31) (zip2 (λ a b. cond (eqb a b) 4294967295 0) vs (replicate 4 0))) ss (replicate 4 0) ≡ ws =
    ap (λ l. sel_l l ss (replicate 4 0)) (tops_compared w32 eqb vs (replicate 4 0)) in
    let long : length ms ≡ 4 = length-zip2 eqb vs (replicate 4 0) fv.0 ∙ fv.0 in
    let mark : get_or ms i false ≡ true =
    get_or-zip2 eqb vs (replicate 4 0) i 0 0 false (omega (arith, fv.0, few)) (omega (arith, few))
    ∙ ap₂ eqb none (get_or-replicate 4 i 0 0 few) in
    let lane : get_or ws i 0 ≡ get_or ss i 0 =
    get_or-sel_l ms ss (replicate 4 0) i 0 (omega (arith, long, few)) (omega (arith, fs.0, few)) (omega (arith, few))
    ∙ ap (λ t. cond t (get_or ss i 0) (get_or (replicate 4 0) i 0)) mark in
    let byte : get_or (digits_l 256 16 (number_l 4294967296 ws)) (4 * i + 0) 0 ≡ get_or ws i 0 % 256 =
    get_or_narrower 4294967296 4 256 16 ws i 0 refl (below ms ss 4 (below_from_Fits w32 ss fs.1)) (omega arith) (omega (arith, few))
    ∙ omega arith in
    subst (λ x. x < 10) (byte ∙ ap (λ x. x % 256) lane)
    (Each1-get_or (λ x. x < 10) (digits_l 256 16 (number_l 4294967296 ws)) (4 * i + 0) 0 (omega (arith, few))
    (subst (λ l. Each1 (λ x. x < 10) (digits_l 256 16 (number_l 4294967296 l))) is small))
